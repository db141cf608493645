-- What is true of the connection that keeps a desk's books.
use Rattle.std.specs.Prelude.{◌≡◌, false, IsTrue}
use Rattle.sqlite.specs.State.{State, HasCleanDisk}
use Rattle.hotel_statements.specs.declared.version.Layout.{Layout}
use Rattle.hotel_statements.specs.declared.version.Layout.TheVariants.{Nine}
use Rattle.hotel_statements.specs.declared.version.TheConstants.{INDEXES}
use Rattle.hotel_statements.specs.Schema.{schema_of, version_of}
use Rattle.hotel_statements.specs.Tables.{AreTablesOf}

-- nobody else wrote the files, and no failure has shut the connection
abbrev pub IsKept : State → Type 0
IsKept s = HasCleanDisk s × IsTrue s.is_open

-- The database is laid out so, its tables are those of a desk that books left, and nothing is left uncommitted.
pub record IsDeskOf (layout : Layout) (s : State) : Type 0 where
  pub schema : s.now.schema ≡ schema_of layout
  pub settled : s.now ≡ s.committed
  pub tables : AreTablesOf (version_of layout) s.now.trees

-- What is true of the connection to such a desk, whatever has failed.
pub record IsBooksOf (layout : Layout) (s : State) : Type 0 where
  pub autocommit : s.in_transaction ≡ false
  pub desk : IsKept s → IsDeskOf layout s

-- those with all indexes, as any books have them
abbrev pub IsDesk : State → Type 0
IsDesk = IsDeskOf (Nine INDEXES)

abbrev pub IsBooks : State → Type 0
IsBooks = IsBooksOf (Nine INDEXES)

-- the test held before, and the rows are the same
abbrev pub KeepsRows : State → State → Type 0
KeepsRows old new = IsKept new → IsKept old × (new.now ≡ old.now)
