-- What a file does that is sent again at once, with no command between.
use Rattle.std.specs.Prelude.{◌≡◌, ◌≤◌, List, [], ◌∷◌, ◌++◌}
use Rattle.rand_core.specs.Stream.{Stream}
use Rattle.keycard_rules.specs.Note.{Note}
use Rattle.hotel_model.specs.History.{History}
use Rattle.hotel_lock.specs.declared.line.Line.{Line}
use Rattle.hotel_audit.specs.{declared.answer.LineAnswer.LineAnswer, SentAgain.LinesLead}
use Rattle.hotel_lock.specs.declared.line.Line.TheVariants as line

-- none of the lines has a lower count of the note's lock, which is a fit of its room
abbrev pub NoneLower : Note → List Line → Type 0
NoneLower note [] = Unit {0}
NoneLower note (line.Note later ∷ lines) =
    (later.room ≡ note.room → later.fit ≡ note.fit → note.count ≤ later.count) × NoneLower note lines
NoneLower note (line.Unread cause ∷ lines) = NoneLower note lines

-- No lock's counts fall from a line to a later one. (So it is where no room's pairs of fit and count fall.)
abbrev pub CountsDoNotFall : List Line → Type 0
CountsDoNotFall [] = Unit {0}
CountsDoNotFall (line.Note note ∷ lines) = NoneLower note lines × CountsDoNotFall lines
CountsDoNotFall (line.Unread cause ∷ lines) = CountsDoNotFall lines

-- Lines in which no lock's counts fall, and then any prefix of them again: nothing happens, whatever the answers were.
abbrev pub SentAtOnce : Type 0
SentAtOnce = (h mid end : History) (s source t s' : Stream) (prefix rest : List Line) (answers again : List LineAnswer)
    → CountsDoNotFall (prefix ++ rest)
    → LinesLead h s (prefix ++ rest) answers mid source → LinesLead mid t prefix again end s' → end ≡ mid

-- A prefix of lines in which no lock's counts fall, and then all of them, come to the history of all of them sent once.
abbrev pub StoppedAndSent : Type 0
StoppedAndSent = (h mid end once : History) (s source t s' u u' : Stream) (prefix rest : List Line)
    (answers again whole : List LineAnswer) → CountsDoNotFall (prefix ++ rest)
    → LinesLead h s prefix answers mid source → LinesLead mid t (prefix ++ rest) again end s'
    → LinesLead h u (prefix ++ rest) whole once u' → end ≡ once
