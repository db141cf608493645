-- What a stop of the program or the machine leaves, in calls of books or after them.
use Rattle.std.specs.Prelude.{◌≡◌, ◌⊎◌, Option, Some, None, List}
use Rattle.rand_core.specs.Stream.{Stream}
use Rattle.keycard_rules.specs.{declared.kept.Kept.Ghosts as KeptOf, Calls.Passes, Since.Since}
use Rattle.hotel_books.specs.declared.books.Books.{Ghosts as BooksOf}
use Rattle.hotel_model.specs.{declared.command.Command.Command, declared.change.Change.Change, Leads.Leads}
use Rattle.hotel_model.specs.{Run.answered, Outcome.grown, Refinement.Change.made}

-- A stop leaves nothing new, and no row changed, where the state is clean as it ends.
abbrev pub StopsIdle : {S : Type 0} → KeptOf S → BooksOf S → (old new : S) → Type 0
StopsIdle K B old new = K.leaves_no_more old new × (K.is_clean new → B.rows new ≡ B.rows old)

-- A stop in a command or after it, over books from the state old to new, leaves nothing new, and no row changed, where
-- the state is clean as it ends; or it leaves what the books say of one change. Where the state was clean, and is
-- honest as it ends, that is the change by which the rows come to stand for what the model's answer to the command
-- makes of the history that they stood for. So a command that changed rows of clean books isn't lost by a stop.
abbrev pub StopsStep : {S : Type 0} → KeptOf S → BooksOf S → (old : S) → Stream → Command → (new : S) → Type 0
StopsStep K B old source command new = StopsIdle K B old new
    ⊎ ((change : Change) × B.leaves_change change old new × (K.is_honest new → K.is_clean old
    → Leads (B.rows old) (λ h h'. h' ≡ grown h (answered h source command).happens) (made change (B.rows old))))

-- A call carried out a command, with codes from a source, or none: a stop in it or after it leaves what this says, and
-- nothing is mended by it.
abbrev pub StopsCall : {S : Type 0} → KeptOf S → BooksOf S → S → Option (Stream × Command) → S → Type 0
StopsCall K B old None new = Since K old new × StopsIdle K B old new
StopsCall K B old (Some asked) new = Since K old new × StopsStep K B old asked.0 asked.1 new

-- Calls were made one after the other, and each of them left this to a stop.
pub record StopsThrough {S : Type 0} (K : KeptOf S) (B : BooksOf S) (old new : S) : Type 0 where
  pub asked : List (Option (Stream × Command))
  pub through : Passes (StopsCall K B) old asked new
