-- A desk that lacks something which a new one has, and what makes that.
use Rattle.std.specs.Prelude.{◌≡◌, ℕ, List, [], IsTrue}
use Rattle.std.specs.List.{AllByRecursion}
use Rattle.std.specs.Map.{keys_of}
use Rattle.std.specs.BTreeMap.{insert_entry}
use Rattle.sqlite.specs.Tree.{Trees}
use Rattle.sqlite_catalog.specs.Listing.{IsSound}
use Rattle.sqlite.specs.Effect.{IsDatabase}
use Rattle.sqlite.specs.State.{State}
use Rattle.hotel_model.specs.Words.{pair_cmp}
use Rattle.hotel_model.specs.Refits.{fit_row}
use Rattle.hotel_rows.specs.Joined.{FitEntries}
use Rattle.hotel_statements.specs.declared.version.Version.{Version}
use Rattle.hotel_statements.specs.declared.version.Version.TheVariants.{First, Second}
use Rattle.hotel_statements.specs.declared.version.Layout.{Layout}
use Rattle.hotel_statements.specs.Trees.{fit_tree}
use Rattle.hotel_statements.specs.Schema.{desk_schema, version_of}
use Rattle.hotel_statements.specs.Tables.{AreTablesOf, AreTables, HasId, bare_rooms_in, fits_in, rows_in, bare_rows_in}
use Rattle.hotel_statements.specs.Tables.{rows_of_version}
use Rattle.hotel_statements.specs.Steps.{IsMidOf, IsMid}

-- these are the rooms, in order
abbrev pub AreRoomsIn : List ℕ → Trees → Type 0
AreRoomsIn rooms db = rooms ≡ keys_of (bare_rooms_in db)

-- the rooms that the making of what is missing asks for: those of a desk of the first version, which has no fits
abbrev pub AreRoomsFor : Version → List ℕ → Trees → Type 0
AreRoomsFor First rooms db = AreRoomsIn rooms db
AreRoomsFor Second rooms db = Unit {0}

-- Within one transaction, the tables became those of a whole desk, and the rows stayed, but for its fits.
pub record BecomesDesk (old new : State) : Type 0 where
  pub was_open : IsTrue old.is_open
  pub is_open : IsTrue new.is_open
  pub committed : new.committed ≡ old.committed
  pub mid : IsMid new
  -- the trees list the tables and indexes, and obey them
  pub sound : IsDatabase new.now
  pub bare_rows_are : bare_rows_in new.now.trees ≡ bare_rows_in old.now.trees

-- where the connection was open, and the desk was laid out so, it is whole; with its rows, where the rooms asked for
-- are these
abbrev pub Completes : Layout → List ℕ → State → State → Type 0
Completes layout rooms old new = (IsTrue old.is_open → IsMidOf layout old) → BecomesDesk old new
    × (AreRoomsFor (version_of layout) rooms old.now.trees
    → rows_in new.now.trees ≡ rows_of_version (version_of layout) old.now.trees)

-- The trees are the whole of a desk, with the rows of one of a version: an opening that finds them finds its schema.
pub record IsWholeOf (version : Version) (old new : Trees) : Type 0 where
  pub tables : AreTables new
  pub sound : IsSound desk_schema new
  pub rows_are : rows_in new ≡ rows_of_version version old

-- ---- its statements

-- Within a transaction, there are the tables of the second version, but meta tells the first one, and there is no fit.
pub record IsOutdated (s : State) : Type 0 where
  pub schema : s.now.schema ≡ desk_schema
  pub inside : IsTrue s.in_transaction
  pub tables : AreTablesOf First s.now.trees
  pub empty : s.now.trees fit_tree ≡ []

-- each row of a fit has a number, by which SQLite tells it from another
abbrev pub HaveIds : State → Type 0
HaveIds s = AllByRecursion HasId (s.now.trees fit_tree)

-- Within a transaction, the tables are those of a desk, to which fits are added.
pub record IsFilling (s : State) : Type 0 where
  pub mid : IsMid s
  pub numbered : HaveIds s

-- the fits, with the one that a room began with
abbrev pub with_first_fit : FitEntries → ℕ → FitEntries
with_first_fit fits room = insert_entry pair_cmp fits (room, 1) (fit_row room 1 0 0)

-- The tables became those of a desk with these fits.
pub record HasFits (fits : FitEntries) (old new : State) : Type 0 where
  pub desk : BecomesDesk old new
  pub numbered : HaveIds new
  pub fits_are : fits_in new.now.trees ≡ fits

-- where the connection was open, and the state was such, the desk has these fits, and its other rows stayed
abbrev pub GivesFits : (State → Type 0) → FitEntries → State → State → Type 0
GivesFits Before fits old new = (IsTrue old.is_open → Before old) → HasFits fits old new
