-- What is left of a connection's database where no books come of it, and why none come.
use Rattle.std.specs.Prelude.{◌≡◌, ◌⊎◌, ◌++◌, false, ℕ, List, [], ◌∷◌}
use Rattle.sqlite_trees.specs.declared.store.Store.{Ghosts}
use Rattle.sqlite.specs.declared.error.Error.{Error}
use Rattle.sqlite.specs.Held.{Held, state}
use Rattle.sqlite.specs.State.{HasCleanDisk, Survives}
use Rattle.hotel_statements.specs.Books.{IsKept, KeepsRows}
use Rattle.hotel_statements.specs.LookUps.{fault_of}
use Rattle.hotel_statements.specs.NewDesk.{IsEmptyDesk}
use Rattle.hotel_statements.specs.Statements.{Statement, adds_meta, makes_first, makes_last, completes}
use Rattle.hotel_statements.specs.Upgrade.{AreRoomsIn}
use Rattle.hotel_rows.specs.declared.open_fault.OpenFault.{OpenFault}
use Rattle.hotel_statements.specs.declared.version.Version.{Version}
use Rattle.hotel_statements.specs.declared.version.Layout.{Layout}
use Rattle.keycard_rules.specs.declared.issued.LookFault.{LookFault}
use Rattle.keycard_rules.specs.declared.issued.LookFault.TheVariants as look
use Rattle.hotel_tables.specs.Causes.{FailsToWrite}
use Rattle.hotel_tables.specs.Opening.{fault_for, FailsToRead, FaultFitsIn, IsNoDesk, IsOfCall, IsLaidOut}
use Rattle.hotel_tables.specs.Opening.{MemoryFitsIn, IsSoundDesk, IsCompleted, Lacks}

-- the statements that make a desk, in the order in which they run
abbrev pub makes_desk : List Statement
makes_desk = makes_first ++ (makes_last ++ adds_meta ∷ [])

module _ {S : Type 0} (g : Ghosts S) where
  -- Why no desk was made of a database that has nothing, from the connection to it to the one that is given back,
  -- outside any transaction: a call of the store answered an error, which is reported by its name. No row is changed,
  -- and a crash leaves what it could leave before, or the whole of a new desk.
  pub record LeavesBare (old new : Held S) (why : OpenFault) : Type 0 where
    pub outside : new.in_transaction ≡ false
    pub same : KeepsRows (state g old) (state g new)
    pub crash : Survives (state g old) (state g new) IsEmptyDesk
    pub error : Error
    pub told : why ≡ fault_for (fault_of error)
    pub failed : FailsToWrite g makes_desk old new error

  -- What a desk lacks wasn't made, of a connection from old to new, and this is reported: its tables were read, and the
  -- transaction of the statements for it and its rooms failed.
  pub record CompletionFails (old new : Held S) (why : LookFault) : Type 0 where
    pub layout : Layout
    pub lacks : Lacks layout (state g old).now.schema
    pub read : Held S
    pub same : KeepsRows (state g old) (state g read)
    pub rooms : List ℕ
    pub rooms_are : IsKept (state g read) → AreRoomsIn rooms (state g read).now.trees
    pub error : Error
    pub told : why ≡ fault_of error
    pub failed : FailsToWrite g (completes layout rooms) read new error

  -- of the tables of a version, their reading failed for this cause, or the making of what the desk lacks
  abbrev pub CallFails : Held S → Held S → LookFault → Version → Type 0
  CallFails old new why version =
      FailsToRead version (state g old) (state g new) why ⊎ CompletionFails old new why

  -- Why a database gave no books, from the connection to it to the one that is given back, outside any transaction. No
  -- row is changed, and a crash leaves what it could leave before, or the whole desk that was to be made of one that
  -- lacks something.
  pub record LeavesDatabase (old new : Held S) (why : OpenFault) : Type 0 where
    pub outside : new.in_transaction ≡ false
    pub same : KeepsRows (state g old) (state g new)
    pub crash : IsKept (state g old) → Survives (state g old) (state g new) (IsCompleted (state g old).now)
    -- a database that isn't laid out as a desk's is called so, unless memory ran out
    pub foreign : ¬ IsLaidOut (state g old).now.schema → IsNoDesk why
    -- over a desk's tables: a table is called damaged where it is the first that is, it is no desk's for want of meta's
    -- one row, and Store is reported of a call that failed or of rows that no query shows
    pub fits : HasCleanDisk (state g new) → FaultFitsIn (CallFails old new look.Store) (state g old).now why
    -- Memory is reported of a call that failed for want of it, or where none failed: nothing was read, or all was
    pub memory : (new ≡ old) ⊎ MemoryFitsIn (CallFails old new look.Memory) (state g old) (state g new) why
    -- tables that books kept are never refused
    pub kept : HasCleanDisk (state g new) → IsSoundDesk (state g old) → IsOfCall why
