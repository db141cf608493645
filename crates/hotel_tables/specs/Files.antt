-- What the opening of a database file gives: its books, or why there are none. And what a close leaves of its files.
use Rattle.std.specs.Prelude.{◌≡◌, ◌⊎◌, Bool, false, Result, Ok, Err, Option, MatchOption, IsTrue}
use Rattle.sqlite_disk.specs.declared.Disk as disk
use Rattle.sqlite_disk.specs.declared.Files.{Files}
use Rattle.sqlite_store.specs.declared.store.FileStore.{FileStore}
use Rattle.sqlite_store.specs.FileStore.{view}
use Rattle.sqlite_trees.specs.View.{IsClean}
use Rattle.sqlite.specs.declared.error.ErrorCode.TheVariants.{NotADatabase, DatabaseCorrupt, OutOfMemory}
use Rattle.sqlite.specs.declared.error.ErrorCode.TheVariants.{SystemIoFailure, DiskFull, Closed}
use Rattle.sqlite.specs.declared.error.Error.{Error}
use Rattle.sqlite.specs.declared.error.Error.TheVariants.{SqliteFailure}
use Rattle.sqlite.specs.State.{State, HasCleanDisk, Survives}
use Rattle.sqlite_trees.specs.declared.store.Store.{Ghosts}
use Rattle.sqlite.specs.declared.file.Leftover.{Leftover}
use Rattle.sqlite.specs.Held.{Held, state, IsNew}
use Rattle.sqlite.specs.Opening.{is_open_error}
use Rattle.sqlite.specs.Files.{over_files, file_state, image_of, IsBlankAs, IsOpened, Finds, IsClosed, FailsToClose}
use Rattle.sqlite.specs.Files.{IsCleanLeft, FailsToOpenFiles, LeavesFiles}
use Rattle.sqlite.specs.Closing.{IsCopied}
use Rattle.hotel_model.specs.Rows.{no_rows}
use Rattle.hotel_model.specs.Sound.{IsSound}
use Rattle.hotel_rows.specs.declared.open_fault.OpenFault.{OpenFault}
use Rattle.hotel_rows.specs.declared.open_fault.OpenFault.TheVariants as fault
use Rattle.hotel_rows.specs.declared.open_fault.FileFault.{FileFault}
use Rattle.hotel_rows.specs.declared.open_fault.FileFault.TheVariants.{File, Desk}
use Rattle.hotel_statements.specs.Schema.{no_schema}
use Rattle.hotel_statements.specs.Books.{IsKept}
use Rattle.hotel_statements.specs.Tables.{rows_in}
use Rattle.hotel_statements.specs.NewDesk.{IsEmptyDesk}
use Rattle.hotel_tables.specs.Applied.{LeavesAll}
use Rattle.hotel_tables.specs.Opening.{IsLaidOut, Continues, IsCompleted, IfLacking}
use Rattle.hotel_tables.specs.Exits.{LeavesBare, LeavesDatabase}
use Rattle.hotel_tables.specs.Paths.{IsPathError, AreParts}

-- the fault of a file whose opening failed
abbrev pub connect_fault : Error → FileFault
connect_fault (SqliteFailure NotADatabase) = Desk fault.NotADesk
connect_fault (SqliteFailure DatabaseCorrupt) = Desk fault.NotADesk
connect_fault (SqliteFailure OutOfMemory) = Desk fault.Memory
connect_fault (SqliteFailure SystemIoFailure) = Desk fault.Store
connect_fault (SqliteFailure DiskFull) = Desk fault.Store
connect_fault (SqliteFailure Closed) = Desk fault.Store
connect_fault _ = File

-- Books over a database that was opened, from its state then to that of the books.
pub record AreBooksOf (old new : State) : Type 0 where
  -- of a database that has nothing an empty desk is made; a crash leaves nothing or that desk
  pub made : old.now.schema ≡ no_schema → (IsKept new → rows_in new.now.trees ≡ no_rows) × Survives old new IsEmptyDesk
  -- any other is a desk's, whose rows are kept; what it lacks is made. A crash leaves what it could leave before, or
  -- the whole of that
  pub found : ¬ (old.now.schema ≡ no_schema) → IsLaidOut old.now.schema
      × (IsKept new → IsKept old × Continues old.now new.now) × (IsKept old → Survives old new (IsCompleted old.now))
  -- once that was made, a crash leaves it
  pub whole : IfLacking old.now (IsKept new → LeavesAll new)
  -- the rows are sound
  pub sound : IsKept new → IsSound (rows_in new.now.trees)
  -- the connection is open where its disk returned what was written
  pub vouched : HasCleanDisk new → IsKept new

-- Why a database that was opened gave no books, from its connection to the one that is given back.
pub record IsWhyNone {S : Type 0} (g : Ghosts S) (old new : Held S) (why : OpenFault) : Type 0 where
  -- it has nothing: no desk could be made of it
  pub bare : (state g old).now.schema ≡ no_schema → LeavesBare g old new why
  -- it has tables
  pub found : ¬ ((state g old).now.schema ≡ no_schema) → LeavesDatabase g old new why

module _ {D : Type 0} {g : disk.Ghosts D} (is_part : Bool → D → Type 0) where
  -- the pages of a file that was blank have no sums
  abbrev pub IsPlain : Files D → Held (FileStore D g) → Type 0
  IsPlain files c = IsBlankAs false (image_of g files) → (view c.store).has_sums ≡ false

  -- What an opening promises of its answer. A connection is new, over a log and a database's file; where its disk is
  -- clean it is open, with nothing uncommitted, and has what the files held, and of blank files without sums. An error
  -- comes before there are files, or has its cause in what they hold or in a call of theirs that failed, and says what
  -- is left of them.
  abbrev pub IsAnswer : Result (Held (FileStore D g)) (Error × Option (Leftover D g)) → Type 0
  IsAnswer (Ok c) =
      (files : Files D) × AreParts is_part files × IsNew c
      × (HasCleanDisk (file_state c) → IsOpened c × Finds files c × IsPlain files c)
  IsAnswer (Err e) =
      IsTrue (is_open_error e.0)
      × MatchOption e.1 (IsPathError e.0) (λ left. (files : Files D) × AreParts is_part files
      × (IsCleanLeft left → FailsToOpenFiles files left e.0 × LeavesFiles files left))

  -- the books' connection is that of an opening
  abbrev pub AreOfOpening : Held (FileStore D g) → Type 0
  AreOfOpening conn =
      (opened : Held (FileStore D g)) × IsAnswer (Ok opened) × AreBooksOf (file_state opened) (file_state conn)

module _ {D : Type 0} {g : disk.Ghosts D} where
  -- Where the disks of both files gave back what was written: the files hold what the connection last committed, and so
  -- does each connection that an opening finds in them.
  abbrev pub HoldBooks : Held (FileStore D g) → Files D → Type 0
  HoldBooks conn files =
      IsTrue (g.is_clean files.log) → IsTrue (g.is_clean files.db)
      → IsCopied conn files × ((again : Held (FileStore D g)) → IsOpened again → Finds files again
      → HasCleanDisk (file_state again) → (file_state again).now ≡ (file_state conn).now)

  -- The store is that of the connection after a close that failed so: a crash finds nothing but what it could find
  -- before.
  abbrev pub LeavesLog : Held (FileStore D g) → FileStore D g → Error → Type 0
  LeavesLog conn last e = IsClosed conn last × (IsClean (view last) → FailsToClose conn last e)

  -- there is such a store
  abbrev pub FailsToCopy : Held (FileStore D g) → Error → Type 0
  FailsToCopy conn e = (last : FileStore D g) × LeavesLog conn last e

-- The fault is that of an opening: of its error, so that File comes of an error alone, or of why the database that it
-- gave has no books, with the connection as it is then dropped.
abbrev pub IsOfOpening : {D : Type 0} → disk.Ghosts D → (Bool → D → Type 0) → FileFault → Type 0
IsOfOpening {D} g is_part f =
    ((e : Error × Option (Leftover D g)) × IsAnswer is_part (Err e) × (f ≡ connect_fault e.0))
    ⊎ ((opened last : Held (FileStore D g)) × (why : OpenFault) × IsAnswer is_part (Ok opened) × (f ≡ Desk why)
    × IsWhyNone over_files opened last why)
