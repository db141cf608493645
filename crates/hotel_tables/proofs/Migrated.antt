-- A migration: a transaction is begun, what the desk lacks is made, and the commit is tried.
use Rattle.std.proofs.Common.{◌≡◌, ap, true, false, List, ℕ, Result, Ok, OnOk, IfErr}
use Rattle.sqlite.specs.Held.{Held, state}
use Rattle.sqlite.specs.State.{HasCleanDisk, Survives}
use Rattle.sqlite.specs.Steps.{FailsToCommit}
use Rattle.sqlite.specs.declared.error.Error.{Error}
use Rattle.sqlite_trees.specs.declared.store.Store.{Ghosts}
use Rattle.hotel_statements.specs.declared.version.Layout.{Layout}
use Rattle.hotel_statements.specs.Schema.{version_of}
use Rattle.hotel_statements.specs.Statements.{MakesBy, completes}
use Rattle.hotel_statements.specs.Tables.{rows_in, rows_of_version}
use Rattle.hotel_statements.specs.Books.{IsKept, IsBooksOf}
use Rattle.hotel_statements.specs.Upgrade.{AreRoomsFor, Completes, IsWholeOf}
use Rattle.hotel_statements.proofs.Transaction.{Begins, Committed, Finishes}
use Rattle.hotel_statements.proofs.Upgraded.{migrated, rows_made, whole_or_none}

module _ {S : Type 0} (g : Ghosts S) {layout : Layout} (rooms : List ℕ) (old start mid new : Held S)
    (r : Result (Unit {0}) Error) (books : IsBooksOf layout (state g old))
    (begun : start ≡ record old { in_transaction = true })
    (makes : MakesBy g (completes layout rooms) (Completes layout rooms) start mid (Ok tt))
    (survives : Survives (state g mid) (state g new) (λ db. db ≡ (state g mid).now.trees)) where
  begins : Begins layout (state g old) (state g start)
  begins = record { books = books; begun = ap (state g) begun }

  -- how it ends, whatever rooms were given
  pub ended : new.in_transaction ≡ false → (HasCleanDisk (state g new) → Committed (state g mid) (state g new) r)
      → (HasCleanDisk (state g new) → IfErr r (FailsToCommit (state g mid) (state g new)))
      → Finishes layout (state g old) (state g mid) (state g new) r
  ended autocommit ok err =
      migrated rooms begins makes.made makes.survives (state g new) r autocommit ok err survives

  -- and where those are the desk's
  module _ (rooms_are : IsKept (state g old) → AreRoomsFor (version_of layout) rooms (state g old).now.trees) where
    pub made : Finishes layout (state g old) (state g mid) (state g new) r → IsKept (state g new)
        → OnOk r (rows_in (state g new).now.trees ≡ rows_of_version (version_of layout) (state g old).now.trees)
    made = rows_made rooms begins makes.made makes.survives rooms_are (state g new) r survives

    pub crash : Survives (state g old) (state g start) (λ _. ⊥)
        → Survives (state g old) (state g new) (IsWholeOf (version_of layout) (state g old).now.trees)
    crash began = whole_or_none rooms begins makes.made makes.survives rooms_are (state g new) began survives
