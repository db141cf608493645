-- The making of tables, and an empty desk.
use Rattle.std.specs.Prelude.{◌≡◌, List, [], ℕ, IsTrue, false, Ok, Some, slice_get}
use Rattle.std.specs.List.{AllByRecursion}
use Rattle.sqlite.specs.Table.{Table}
use Rattle.sqlite.specs.Compile.{table_defined_by, index_defined_by}
use Rattle.sqlite.specs.Command.TheVariants.{CreateTable, CreateIndex}
use Rattle.sqlite.specs.Does.{lacks_sequence}
use Rattle.sqlite.specs.Listing.{understood}
use Rattle.sqlite.specs.Given.{IsPlain}
use Rattle.sqlite.proofs.Callers.{command_of, statement_of}
use Rattle.sqlite.specs.Tree.{Trees}
use Rattle.sqlite.specs.Schema.{Schema}
use Rattle.sqlite.specs.State.{State}
use Rattle.sqlite.specs.Change.{next_tree, KeepsRows}
use Rattle.sqlite_schema.specs.declared.schema.Index.{Index}
use Rattle.sqlite_catalog.specs.Change.{created, indexed}
use Rattle.hotel_model.specs.Rows.{no_rows}
use Rattle.hotel_statements.specs.Trees.{fit_tree}
use Rattle.hotel_statements.specs.Tables.{AreTables, rows_in}
use Rattle.sqlite.specs.Effect.{IsDatabase}
use Rattle.hotel_statements.specs.Schema.{desk_schema, first_schema, tables_schema, with_indexes, no_schema}
use Rattle.hotel_statements.specs.Schema.{meta_table, kind_table, room_table}
use Rattle.hotel_statements.specs.Schema.{stay_table, code_table, card_table, inside_table}

abbrev pub AreEmpty : Schema → Trees → Type 0
AreEmpty schema db = AllByRecursion (λ (t : Table). db t.tree ≡ []) schema.tables

-- The text makes this table of a database with these tables.
pub record IsMaker (schema : Schema) (text : List ℕ) (t : Table) : Type 0 where
  pub command : command_of (understood schema text) ≡ CreateTable
  pub whole : statement_of text (understood schema text) ≡ text
  pub plain : IsPlain (understood schema text)
  pub defines : table_defined_by text ≡ Ok t
  pub uncounted : lacks_sequence (created schema t) ≡ false

-- Within a transaction, each table is there and empty.
pub record IsBare (schema : Schema) (s : State) : Type 0 where
  pub inside : IsTrue s.in_transaction
  pub schema_is : s.now.schema ≡ schema
  pub empty : AreEmpty schema s.now.trees

abbrev pub with_meta : Schema
with_meta = created no_schema meta_table

abbrev pub with_kind : Schema
with_kind = created with_meta kind_table

abbrev pub with_room : Schema
with_room = created with_kind room_table

abbrev pub with_stay : Schema
with_stay = created with_room stay_table

abbrev pub with_code : Schema
with_code = created with_stay code_table

abbrev pub with_card : Schema
with_card = created with_code card_table

abbrev pub with_inside : Schema
with_inside = created with_card inside_table

-- the eight tables of the first version
abbrev pub with_note : Schema
with_note = first_schema

-- Where the connection was open and the one held, the other holds.
abbrev pub IfOpen : (State → Type 0) → (State → Type 0) → State → State → Type 0
IfOpen Before After old new = (IsTrue old.is_open → Before old) → After new

-- the tables are made of those that were there
abbrev pub IfOpenBare : Schema → Schema → State → State → Type 0
IfOpenBare before after = IfOpen (IsBare before) (IsBare after)

-- whatever tables are there, the text's table is made
abbrev pub MakesTable : List ℕ → State → State → Type 0
MakesTable text old new =
    (schema : Schema) (t : Table) → IsMaker schema text t → IfOpen (IsBare schema) (IsBare (created schema t)) old new

-- Within a transaction, a table was made, and no other table's rows changed.
pub record HasTable (schema : Schema) (t : Table) (old new : State) : Type 0 where
  pub inside : IsTrue new.in_transaction
  pub was_open : IsTrue old.is_open
  pub schema_is : new.now.schema ≡ created schema t
  pub rows : KeepsRows schema.tables old.now.trees new.now.trees
  pub empty : new.now.trees (next_tree schema) ≡ []

-- whatever tables are there and whatever their rows, the text's table is made
abbrev pub AddsTable : List ℕ → State → State → Type 0
AddsTable text old new =
    (schema : Schema) (t : Table) → IsMaker schema text t → (IsTrue old.is_open → old.now.schema ≡ schema)
    → HasTable schema t old new

-- The text makes this index of the table at this place of a database with these tables.
pub record IsIndexer (schema : Schema) (text : List ℕ) (at : ℕ) (t : Table) (index : Index) : Type 0 where
  pub command : command_of (understood schema text) ≡ CreateIndex at
  pub whole : statement_of text (understood schema text) ≡ text
  pub plain : IsPlain (understood schema text)
  pub there : slice_get schema.tables at ≡ Some t
  pub defines : index_defined_by t text ≡ Ok index

-- Within a transaction, an index of a table was made, and no table's rows changed.
pub record HasIndex (schema : Schema) (t : Table) (index : Index) (old new : State) : Type 0 where
  pub inside : IsTrue new.in_transaction
  pub was_open : IsTrue old.is_open
  pub is_open : IsTrue new.is_open
  pub committed : new.committed ≡ old.committed
  pub schema_is : new.now.schema ≡ indexed schema t index
  pub rows : KeepsRows schema.tables old.now.trees new.now.trees
  -- the trees list the tables and indexes, and obey them
  pub sound : IsDatabase new.now

-- whatever tables are there and whatever their rows, the text's index is made
abbrev pub AddsIndex : List ℕ → State → State → Type 0
AddsIndex text old new =
    (schema : Schema) (at : ℕ) (t : Table) (index : Index) → IsIndexer schema text at t index
    → (IsTrue old.is_open → old.now.schema ≡ schema) → HasIndex schema t index old new

-- Within a transaction, the nine tables have so many of our indexes, and no table's rows changed.
pub record HasIndexes (count : ℕ) (old new : State) : Type 0 where
  pub inside : IsTrue new.in_transaction
  pub was_open : IsTrue old.is_open
  pub is_open : IsTrue new.is_open
  pub committed : new.committed ≡ old.committed
  pub schema_is : new.now.schema ≡ with_indexes count
  pub rows : KeepsRows tables_schema.tables old.now.trees new.now.trees
  -- the trees list the tables and indexes, and obey them
  pub sound : IsDatabase new.now

-- where the connection was open and the nine tables had the first so many of them, those up to a place are made
abbrev pub AddsIndexes : ℕ → ℕ → State → State → Type 0
AddsIndexes first past old new = (IsTrue old.is_open → old.now.schema ≡ with_indexes first) → HasIndexes past old new

-- Of eight tables with rows, all of the second version are made: the rows stay, and the ninth table has none.
pub record HasNew (old new : State) : Type 0 where
  pub inside : IsTrue new.in_transaction
  pub was_open : IsTrue old.is_open
  pub schema_is : new.now.schema ≡ desk_schema
  pub rows : KeepsRows first_schema.tables old.now.trees new.now.trees
  pub empty : new.now.trees fit_tree ≡ []

-- if the connection was open and had the eight tables
abbrev pub MakesNew : State → State → Type 0
MakesNew old new = (IsTrue old.is_open → old.now.schema ≡ first_schema) → HasNew old new

-- The trees of an empty desk: meta has its one row, and the other tables have none.
pub record IsEmptyDesk (db : Trees) : Type 0 where
  pub tables : AreTables db
  pub no_rows_are : rows_in db ≡ no_rows

-- Within a transaction, the tables are those of an empty desk.
pub record IsMade (s : State) : Type 0 where
  pub inside : IsTrue s.in_transaction
  pub schema_is : s.now.schema ≡ desk_schema
  pub empty : IsEmptyDesk s.now.trees
