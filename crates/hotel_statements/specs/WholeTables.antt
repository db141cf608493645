-- What is read of whole tables, and what the reading promises.
use Rattle.std.specs.Prelude.{◌≡◌, ◌⊎◌, ◌++◌, ℕ, false, List, [], map, Option, Some, None, Result, IfOk, OnOk, IsTrue}
use Rattle.std.specs.Prelude.{Vec}
use Rattle.std.specs.declared.cmp.Ordering.{Ordering}
use Rattle.std.specs.declared.alloc.Global.{Global}
use Rattle.sqlite.specs.Order.{Row}
use Rattle.sqlite.specs.Tree.{Trees}
use Rattle.sqlite.specs.Query.{Query, IsAnswer}
use Rattle.sqlite.specs.Program.{overlay}
use Rattle.sqlite.specs.State.{State, HasCleanDisk, IsUnchanged}
use Rattle.keycard_rules.specs.declared.issued.LookFault.{LookFault}
use Rattle.hotel_rows.specs.declared.stored.PlainKind.{PlainKind}
use Rattle.hotel_rows.specs.declared.stored.PlainRoom.{PlainRoom}
use Rattle.hotel_rows.specs.declared.stored.PlainStay.{PlainStay}
use Rattle.hotel_rows.specs.declared.stored.PlainCode.{PlainCode}
use Rattle.hotel_rows.specs.declared.stored.PlainCard.{PlainCard}
use Rattle.hotel_rows.specs.declared.stored.PlainNote.{PlainNote}
use Rattle.hotel_rows.specs.declared.stored.PlainFit.{PlainFit}
use Rattle.hotel_statements.specs.declared.plain_rows.PlainMeta.{PlainMeta}
use Rattle.hotel_statements.specs.declared.plain_rows.NumberedInside.{NumberedInside}
use Rattle.hotel_statements.specs.declared.whole_tables.WholeTables.{WholeTables}
use Rattle.hotel_statements.specs.declared.version.Version.{Version}
use Rattle.hotel_statements.specs.declared.version.Version.TheVariants.{First, Second}
use Rattle.hotel_statements.specs.Trees.{meta_tree, kind_tree, room_tree, stay_tree, code_tree, card_tree, inside_tree}
use Rattle.hotel_statements.specs.Trees.{note_tree, fit_tree}
use Rattle.sqlite_schema.specs.declared.schema.Schema.{Schema}
use Rattle.hotel_statements.specs.Schema.{HasTablesOf}
use Rattle.hotel_statements.specs.Columns.{meta_columns, kind_columns, room_columns, stay_columns, code_columns}
use Rattle.hotel_statements.specs.Columns.{card_columns, note_columns, fit_columns}
use Rattle.hotel_statements.specs.PlainRows.{meta_shown, kind_shown, room_shown, stay_shown, code_shown, card_shown}
use Rattle.hotel_statements.specs.PlainRows.{numbered_columns, numbered_shown, note_shown, fit_shown, AreRowsInOrder}
use Rattle.hotel_statements.specs.PlainRows.{meta_order, kind_order, room_order, stay_order, code_order, card_order}
use Rattle.hotel_statements.specs.PlainRows.{numbered_order, note_order, fit_order}
use Rattle.hotel_statements.specs.LookUps.{AsksOf, FailsIn, HasCause, LeavesNoMore}
use Rattle.hotel_statements.specs.Texts as text
use Rattle.hotel_statements.specs.Books.{IsKept, KeepsRows}

-- A connection outside any transaction, over the tables of a desk of a version, whatever their rows and indexes.
pub record IsOurs (version : Version) (s : State) : Type 0 where
  pub autocommit : s.in_transaction ≡ false
  pub tables : IsKept s → HasTablesOf version s.now.schema × (s.now ≡ s.committed)

-- The text reads a whole table of a desk of a version, whatever indexes it has: to it that is a query. Plain rows that
-- show the columns of its answer are those of the tree, in the order of their keys.
pub record IsWhole {L : Type 0} (version : Version) (text : List ℕ) (tree : ℕ) (columns cut : Row → Row)
    (shown : L → Row) (order : L → L → Ordering) : Type 0 where
  pub query : Query
  pub asks : (schema : Schema) → HasTablesOf version schema → AsksOf schema text query
  pub answers : (db : Trees) (rows : List Row) (plain_rows : List L) → IsAnswer query (overlay db []) [] rows
      → map shown plain_rows ≡ map cut rows → AreRowsInOrder columns shown order plain_rows (db tree)

-- a row that begins with the columns of a plain row
abbrev pub BeginsAs : {L : Type 0} → (L → Row) → Row → Type 0
BeginsAs {L} shown row = (l : L) × (more : Row) × (shown l ++ more ≡ row)

-- why a table isn't read, but for lack of memory
abbrev pub TableFails : {L : Type 0} → List ℕ → (L → Row) → State → State → Type 0
TableFails text shown old new = FailsIn old.now.schema (BeginsAs shown) text [] old new

-- What a reading of the tables promises, of a connection from old to new: what it says of the trees where the test
-- holds at its end. It changes no row, and a crash in it leaves nothing new.
pub record ReadsIf {R : Type 0} (was : Type 0) (version : Version) (Fails : State → State → Type 0)
    (Says : R → Trees → Type 0) (old new : State)
    (result : Result R LookFault) : Type 0 where
  pub ours : IsOurs version new
  pub keeps : KeepsRows old new
  pub says : IsKept new → IfOk result (λ r. Says r old.now.trees)
  pub open_on : was → HasCleanDisk new → OnOk result (IsTrue new.is_open)
  pub unchanged : was → HasCleanDisk new → OnOk result (IsUnchanged old new)
  pub cause : HasCause Fails old new result
  pub crash : LeavesNoMore old new

-- The same of a reading that makes a statement: where it is answered over a disk that returned what was written, the
-- connection is open.
abbrev pub ReadsPart : {R : Type 0} → Version → (State → State → Type 0) → (R → Trees → Type 0) → State → State
    → Result R LookFault → Type 0
ReadsPart version Fails Says old new result = ReadsIf (Unit {0}) version Fails Says old new result

-- The same of one that may ask nothing: only a connection that was open is open.
abbrev pub MayRead : {R : Type 0} → Version → (State → State → Type 0) → (R → Trees → Type 0) → State → State
    → Result R LookFault → Type 0
MayRead version Fails Says old new result = ReadsIf (IsKept old) version Fails Says old new result

-- the rows of the first four tables, and of the next four
abbrev pub AreFirst : (Vec PlainMeta Global × Vec PlainKind Global) × (Vec PlainRoom Global × Vec PlainStay Global)
    → Trees → Type 0
AreFirst r db =
    (AreRowsInOrder meta_columns meta_shown meta_order r.0.0.items (db meta_tree)
    × AreRowsInOrder kind_columns kind_shown kind_order r.0.1.items (db kind_tree))
    × (AreRowsInOrder room_columns room_shown room_order r.1.0.items (db room_tree)
    × AreRowsInOrder stay_columns stay_shown stay_order r.1.1.items (db stay_tree))

abbrev pub AreLast : (Vec PlainCode Global × Vec PlainCard Global) × (Vec NumberedInside Global × Vec PlainNote Global)
    → Trees → Type 0
AreLast r db =
    (AreRowsInOrder code_columns code_shown code_order r.0.0.items (db code_tree)
    × AreRowsInOrder card_columns card_shown card_order r.0.1.items (db card_tree))
    × (AreRowsInOrder numbered_columns numbered_shown numbered_order r.1.0.items (db inside_tree)
    × AreRowsInOrder note_columns note_shown note_order r.1.1.items (db note_tree))

-- the rows of the fits, which the first version doesn't have
abbrev pub AreFitRows : Version → Option (Vec PlainFit Global) → Trees → Type 0
AreFitRows First fits db = fits ≡ None
AreFitRows Second None db = ⊥
AreFitRows Second (Some fits) db = AreRowsInOrder fit_columns fit_shown fit_order fits.items (db fit_tree)

-- the rows of all tables of a version
abbrev pub AreTablesRead : Version → WholeTables → Trees → Type 0
AreTablesRead version t db =
    AreFirst ((t.meta, t.kinds), (t.rooms, t.stays)) db
    × (AreLast ((t.codes, t.cards), (t.inside, t.notes)) db × AreFitRows version t.fits db)

-- ---- why they aren't read

abbrev pub FirstFail : State → State → Type 0
FirstFail old new =
    (TableFails text.read_meta meta_shown old new ⊎ TableFails text.read_kind kind_shown old new)
    ⊎ (TableFails text.read_room room_shown old new ⊎ TableFails text.read_stay stay_shown old new)

abbrev pub LastFail : State → State → Type 0
LastFail old new =
    (TableFails text.read_code code_shown old new ⊎ TableFails text.read_card card_shown old new)
    ⊎ (TableFails text.read_inside numbered_shown old new ⊎ TableFails text.read_note note_shown old new)

-- the first version has none that could fail
abbrev pub FitRowsFail : Version → State → State → Type 0
FitRowsFail First old new = ⊥
FitRowsFail Second old new = TableFails text.read_fit fit_shown old new

abbrev pub TablesFail : Version → State → State → Type 0
TablesFail version old new = (FirstFail old new ⊎ LastFail old new) ⊎ FitRowsFail version old new

-- The same of a reading of all tables: it fails only where one of them isn't read.
abbrev pub ReadsTo : {R : Type 0} → Version → (R → Trees → Type 0) → State → State → Result R LookFault → Type 0
ReadsTo version Says old new result = ReadsPart version (TablesFail version) Says old new result
