-- One step over books: it goes as the outcome says, or it fails and changes nothing.
use Rattle.std.specs.Prelude.{◌⊎◌, ◌≡◌, true, false, Some}
use Rattle.keycard_rules.specs.{Draw.MovedAtMost, Draw.words, Rise.Counts, Rise.one_of}
use Rattle.keycard_rules.specs.declared.draw.TheConstants.{MOST_WORDS}
use Rattle.keycard_rules.specs.{Since.Since, Leaves.StaysClean}
use Rattle.rand_core.specs.Stream.{Stream}
use Rattle.hotel_model.specs.{declared.command.Command.Command, declared.change.Change.Change}
use Rattle.hotel_model.specs.{declared.reply.Reply.Reply, Rows.Rows}
use Rattle.hotel_model.specs.{Refinement.GoesOnRows.Goes, Refinement.GoesOnRows.AreWhole, Outcome.Outcome}
use Rattle.hotel_model.specs.{Refinement.OnRows.outcome_on, Run.is_failed, Ranges.IsReply}
use Rattle.hotel_books.specs.Books.Failures.{failure_in}
use Rattle.keycard_rules.specs.declared.kept.Kept.{Ghosts as KeptOf}
use Rattle.hotel_books.specs.declared.books.Books.{Ghosts as BooksOf}
use Rattle.hotel_books.specs.Books.Stops.{StopsIdle}

-- this change happens, and the reply is in its ranges
abbrev pub IsMadeWith : Change → Outcome Change → Type 0
IsMadeWith change o = (o.happens ≡ Some change) × IsReply o.reply × (is_failed o.reply ≡ false)

-- A stop in a part of a step, or after it, from the state old to new, leaves nothing new, and no row changed, where the
-- state is clean at the end; or it leaves what the books say of one change: the one that the outcome says, where the
-- state was clean and is honest at the end.
abbrev pub StopsIn : {S : Type 0} → KeptOf S → BooksOf S → (Rows → Outcome Change) → (old new : S) → Type 0
StopsIn K B outcome old new = StopsIdle K B old new
    ⊎ ((change : Change) × B.leaves_change change old new
    × (K.is_honest new → K.is_clean old → IsMadeWith change (outcome (B.rows old))))

-- A part of a step from the state old to new, with the source moved to rest, where the outcome says what comes of it.
-- Where the state is honest at its end, an answer that isn't failed says that it is clean, and a failed one left the
-- source, or moved it by no more than the outcome over a clean state. A failure that it reports is counted, for whole
-- rows, and no other one. A stop leaves nothing new, or the outcome's change.
pub record StepsAs {S : Type 0} (K : KeptOf S) (B : BooksOf S) (outcome : Rows → Outcome Change) (old new : S)
    (source rest : Stream) (answer : Reply) : Type 0 where
  pub goes : K.is_clean new → Goes (outcome (B.rows old)) (B.rows old) source answer (B.rows new) rest
  pub since : Since K old new
  pub vouched : K.is_honest new → is_failed answer ≡ false → K.is_clean new
  pub stays : K.is_honest new → StaysClean K old new
  pub moved : K.is_honest new → is_failed answer ≡ true → (rest ≡ source)
      ⊎ (K.is_clean old × MovedAtMost (outcome (B.rows old)).examined source rest)
  pub counted : K.is_honest new → (K.is_clean old → AreWhole (B.rows old))
      → Counts (λ why. one_of why (failure_in answer)) (K.failures old) (K.failures new)
  pub stop : StopsIn K B outcome old new

-- The same of a part that draws nothing: whatever the source, it stays where it is.
abbrev pub StepsWithoutWords : {S : Type 0} → KeptOf S → BooksOf S → (Rows → Outcome Change) → (old new : S) → Reply
    → Type 0
StepsWithoutWords K B outcome old new answer = (source : Stream) → StepsAs K B outcome old new source source answer

-- A command was carried out over books from old to new, with the source moved to rest, and this is its reply.
abbrev pub CarriesOut : {S : Type 0} → KeptOf S → BooksOf S → Command → (old new : S) → (source rest : Stream)
    → Reply → Type 0
CarriesOut K B command old new source rest answer =
    StepsAs K B (λ rows. outcome_on rows (words MOST_WORDS source) command) old new source rest answer

-- The same of a command that draws nothing: whatever the source, it stays where it is.
abbrev pub CarriesOutWithoutWords : {S : Type 0} → KeptOf S → BooksOf S → Command → (old new : S) → Reply → Type 0
CarriesOutWithoutWords K B command old new answer =
    (source : Stream) → CarriesOut K B command old new source source answer
