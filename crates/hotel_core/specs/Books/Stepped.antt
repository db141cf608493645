-- What a command, a note or several commands that were carried out promise.
use Rattle.std.specs.Prelude.{◌≡◌, true, None, List, length, map, zip}
use Rattle.rand_core.specs.Stream.{Stream}
use Rattle.keycard_rules.specs.{Note.Note, Leaves.Leaves, Calls.LeaveAll, Calls.Passes}
use Rattle.keycard_rules.specs.{declared.kept.Kept.Ghosts as KeptOf}
use Rattle.hotel_books.specs.declared.books.Books.{Ghosts as BooksOf}
use Rattle.hotel_books.specs.{Books.Failures.failure_in, Books.Stops.StopsStep}
use Rattle.hotel_core.specs.Books.Happens.{Happens}
use Rattle.hotel_books.specs.Books.Stops.{StopsThrough}
use Rattle.hotel_model.specs.{declared.command.Command.Command, declared.reply.Reply.Reply, Leads.Leads}
use Rattle.hotel_model.specs.{Ranges.IsReply, Refinement.Fits.takes_none, Run.Steps, Run.Runs}
use Rattle.hotel_model.specs.FurtherLaws.{tells_no_change}
use Rattle.hotel_model.specs.{Sound.IsSound}
use Rattle.hotel_model.specs.declared.command.Command.TheVariants.{Reported}

-- A command was carried out with this reply, over books and a source of words from old to new: it is a step of the
-- model, and leaves what any call does. In memory a command that takes none doesn't fail. A stop leaves nothing new, or
-- the change of the model's answer.
pub record Stepped {S : Type 0} (K : KeptOf S) (B : BooksOf S) (old : S × Stream) (asked : Command × Reply)
    (new : S × Stream) : Type 0 where
  pub happened : Happens K B.rows old.0 (λ h h'. Steps h old.1 asked.0 asked.1 h' new.1) new.0
  pub leaves : Leaves K old.0 (failure_in asked.1) new.0
  pub range : IsReply asked.1
  pub sure : K.never_fails → takes_none asked.0 ≡ true → failure_in asked.1 ≡ None
  pub stop : StopsStep K B old.0 old.1 asked.0 new.0

-- Over books that are clean as it ends, a step led from a history that they stood for to one that they stand for.
abbrev pub StepsLead : {S : Type 0} → KeptOf S → BooksOf S → Type 0
StepsLead {S = S} K B = (old new : S × Stream) (asked : Command × Reply)
    → Stepped K B old asked new → K.is_clean new.0
    → Leads (B.rows old.0) (λ h h'. Steps h old.1 asked.0 asked.1 h' new.1) (B.rows new.0)

-- A command that was refused or failed, and a note that was seen before, changed no row of sound books that are clean
-- as it ends.
abbrev pub RefusalsKeepRows : {S : Type 0} → KeptOf S → BooksOf S → Type 0
RefusalsKeepRows {S = S} K B = (old new : S × Stream) (asked : Command × Reply)
    → Stepped K B old asked new → K.is_clean new.0 → IsSound (B.rows old.0) → tells_no_change asked.1 ≡ true
    → B.rows new.0 ≡ B.rows old.0

-- A note was reported: whatever the source, the command that reports it, which takes no word of it.
abbrev pub Noted : {S : Type 0} → KeptOf S → BooksOf S → Note → S → S → Reply → Type 0
Noted K B note old new reply = (source : Stream) → Stepped K B (old, source) (Reported note, reply) (new, source)

-- Commands were carried out with these replies, each in the state that the one before it left.
pub record RunThrough {S : Type 0} (K : KeptOf S) (B : BooksOf S) (old : S × Stream) (commands : List Command)
    (replies : List Reply) (new : S × Stream) : Type 0 where
  pub each : length replies ≡ length commands
  pub through : Passes (Stepped K B) old (zip commands replies) new

-- They are a run of the model, over clean books from a history that they stood for to one that they stand for; and
-- they leave together what their calls do, and to a stop what each of them does.
pub record RanOver {S : Type 0} (K : KeptOf S) (B : BooksOf S) (old : S × Stream) (commands : List Command)
    (replies : List Reply) (new : S × Stream) : Type 0 where
  pub happened : Happens K B.rows old.0 (λ h h'. Runs h old.1 commands replies h' new.1) new.0
  pub led : K.is_clean new.0
      → Leads (B.rows old.0) (λ h h'. Runs h old.1 commands replies h' new.1) (B.rows new.0)
  pub calls : Passes (Leaves K) old.0 (map failure_in replies) new.0
  pub leaves : LeaveAll K old.0 (map failure_in replies) new.0
  pub stops : StopsThrough K B old.0 new.0

-- commands that were carried out in turn are such a run
abbrev pub RunsFollow : {S : Type 0} → KeptOf S → BooksOf S → Type 0
RunsFollow {S = S} K B = (old new : S × Stream) (commands : List Command) (replies : List Reply)
    → RunThrough K B old commands replies new → RanOver K B old commands replies new
