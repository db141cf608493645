-- Why a confirmed change stays: a crash leaves the rows of clean books over tables.
use Rattle.std.proofs.Common.{◌≡◌, ◌⊎◌, inl, inr, Option, Some, None, List, [], ◌∷◌, ap, sym, ◌∙◌, subst}
use Rattle.hotel_books.proofs.Names.{Stream}
use Rattle.sqlite.specs.State.{State}
use Rattle.keycard_rules.specs.{Calls.Passes, Since.Since}
use Rattle.keycard_rules.specs.declared.kept.Kept.{Ghosts as KeptOf}
use Rattle.hotel_books.specs.Books.Stops.{StopsCall, StopsStep}
use Rattle.hotel_books.specs.declared.books.Books.{Ghosts as BooksOf}
use Rattle.hotel_model.specs.declared.change.Change.{Change}
use Rattle.hotel_model.specs.declared.command.Command.{Command}
use Rattle.hotel_statements.specs.{Books.IsKept, Tables.rows_in}
use Rattle.hotel_tables.specs.{Applied.LeavesChange, Applied.LeavesNothing, ChangesStay.LeavesRows}

-- a call that changed no row
idle_stays : (old new : State) → LeavesNothing old new → IsKept new → rows_in new.now.trees ≡ rows_in old.now.trees
    → LeavesRows old → LeavesRows new
idle_stays old new none kept same before db left = by (none.crash kept.0 db left)
  where
    by : old.may_leave db ⊎ ⊥ → rows_in db ≡ rows_in new.now.trees
    by (inl was) = before db was ∙ sym same
    by (inr none_committed) = absurd none_committed

-- a change
change_stays : (change : Change) (old new : State) → LeavesChange change old new → IsKept new → LeavesRows new
change_stays change old new stop kept db left = ap rows_in (stop.left kept db left)

-- Calls of books whose states are these, and that say of a stop what books over tables do.
module _ {S : Type 0} (K : KeptOf S) (B : BooksOf S) (at : S → State)
    (clean : (a : S) → K.is_clean a → IsKept (at a))
    (none : (a b : S) → K.leaves_no_more a b → LeavesNothing (at a) (at b))
    (rows : (a b : S) → B.rows b ≡ B.rows a → rows_in (at b).now.trees ≡ rows_in (at a).now.trees)
    (changed : (change : Change) (a b : S) → B.leaves_change change a b → LeavesChange change (at a) (at b)) where
  since_call : (asked : Option (Stream × Command)) (a b : S) → StopsCall K B a asked b → Since K a b
  since_call None a b call = call.0
  since_call (Some asked) a b call = call.0

  was_clean : (asked : List (Option (Stream × Command))) (old new : S) → Passes (StopsCall K B) old asked new
      → K.is_clean new → K.is_clean old
  was_clean [] old new p c = subst K.is_clean p c
  was_clean (first ∷ later) old new p c = (since_call first old p.0 p.1).was_clean (was_clean later p.0 new p.2 c)

  step_stays : (source : Stream) (command : Command) (a b : S) → StopsStep K B a source command b → K.is_clean b
      → LeavesRows (at a) → LeavesRows (at b)
  step_stays source command a b (inl idle) c before =
      idle_stays (at a) (at b) (none a b idle.0) (clean b c) (rows a b (idle.1 c)) before
  step_stays source command a b (inr (change, stop, made)) c before =
      change_stays change (at a) (at b) (changed change a b stop) (clean b c)

  call_stays : (asked : Option (Stream × Command)) (a b : S) → StopsCall K B a asked b → K.is_clean b
      → LeavesRows (at a) → LeavesRows (at b)
  call_stays None a b call c before =
      idle_stays (at a) (at b) (none a b call.1.0) (clean b c) (rows a b (call.1.1 c)) before
  call_stays (Some asked) a b call c before = step_stays asked.0 asked.1 a b call.1 c before

  pub calls_stay : (asked : List (Option (Stream × Command))) (old new : S) → Passes (StopsCall K B) old asked new
      → K.is_clean new → LeavesRows (at old) → LeavesRows (at new)
  calls_stay [] old new p c before = subst (λ b. LeavesRows (at b)) (sym p) before
  calls_stay (first ∷ later) old new p c before =
      calls_stay later p.0 new p.2 c (call_stays first old p.0 p.1 (was_clean later p.0 new p.2 c) before)
