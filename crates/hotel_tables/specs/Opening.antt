-- What is tested of the tables that are read when books are opened, and what opening promises.
use Rattle.std.specs.Prelude.{◌≡◌, ◌⊎◌, ◌&&◌, ℕ, ℤ, pos, Bool, true, false, List, [], ◌∷◌, map, Option, Some, None, Vec}
use Rattle.std.specs.Prelude.{Result, Ok, Err, IfOk, IfErr, OnOk, OnErr, IsTrue}
use Rattle.std.specs.List.{list_all, AllByRecursion}
use Rattle.std.specs.Ordering.{int_cmp}
use Rattle.std.specs.declared.alloc.Global.{Global}
use Rattle.sqlite_value.specs.declared.value.Value.TheVariants.{Int}
use Rattle.sqlite.specs.Order.{Row, column}
use Rattle.sqlite.specs.Tree.{Trees}
use Rattle.sqlite.specs.Schema.{Schema}
use Rattle.sqlite.specs.Effect.{Database}
use Rattle.sqlite.specs.Held.{Held}
use Rattle.sqlite.specs.State.{State, HasCleanDisk, Survives}
use Rattle.keycard_rules.specs.declared.issued.LookFault.{LookFault}
use Rattle.keycard_rules.specs.declared.issued.LookFault.TheVariants as look
use Rattle.hotel_model.specs.Rows.{no_rows}
use Rattle.hotel_model.specs.Sound.{IsSound}
use Rattle.hotel_rows.specs.declared.stored.Stored.{Stored}
use Rattle.hotel_statements.specs.declared.plain_rows.PlainMeta.{PlainMeta}
use Rattle.hotel_statements.specs.declared.plain_rows.NumberedInside.{NumberedInside}
use Rattle.hotel_statements.specs.Trees.{meta_tree, kind_tree, room_tree, stay_tree, code_tree, card_tree, inside_tree}
use Rattle.hotel_statements.specs.Trees.{note_tree}
use Rattle.hotel_statements.specs.Columns.{meta_columns, kind_columns, room_columns, stay_columns}
use Rattle.hotel_statements.specs.Columns.{code_columns, card_columns, inside_columns, note_columns}
use Rattle.hotel_statements.specs.PlainRows.{maybe, kind_shown, room_shown, stay_shown, code_shown, card_shown}
use Rattle.hotel_statements.specs.PlainRows.{inside_shown, note_shown, AreRowsInOrder}
use Rattle.hotel_statements.specs.PlainRows.{kind_order, room_order, stay_order, code_order, card_order, inside_order}
use Rattle.hotel_statements.specs.PlainRows.{note_order}
use Rattle.hotel_statements.specs.PlainRows.{may_be_natural, room_natural, stay_natural, code_natural, card_natural}
use Rattle.hotel_statements.specs.PlainRows.{inside_natural, note_natural, fit_natural}
use Rattle.hotel_rows.specs.declared.open_fault.OpenFault.{OpenFault}
use Rattle.hotel_rows.specs.declared.open_fault.OpenFault.TheVariants as fault
use Rattle.hotel_tables.specs.declared.opening.Found.{Found}
use Rattle.hotel_rows.specs.declared.counts.Counts.{Counts}
use Rattle.hotel_rows.specs.declared.stored.PlainFit.{PlainFit}
use Rattle.hotel_rows.specs.declared.stored.PlainInside.{PlainInside}
use Rattle.hotel_rows.specs.declared.stored.PlainRoom.{PlainRoom}
use Rattle.hotel_rows.specs.Keys.{room_key}
use Rattle.hotel_rows.specs.Damage.{first_damaged_of}
use Rattle.hotel_statements.specs.declared.version.Version.{Version}
use Rattle.hotel_statements.specs.declared.version.Version.TheVariants.{First, Second}
use Rattle.hotel_statements.specs.declared.version.Layout.{Layout}
use Rattle.hotel_statements.specs.Schema.{desk_schema, schema_of, version_of, is_whole}
use Rattle.hotel_statements.specs.Tables.{HasId, AreApart, AreApartIds, AreTablesOf, number_of_version, rows_in}
use Rattle.hotel_statements.specs.Tables.{rows_of_version}
use Rattle.hotel_statements.specs.Books.{IsKept, IsBooks, IsDeskOf, KeepsRows}
use Rattle.hotel_statements.specs.LookUps.{LeavesNoMore}
use Rattle.hotel_statements.specs.NewDesk.{IsEmptyDesk}
use Rattle.hotel_statements.specs.WholeTables.{IsOurs, AreFitRows, AreTablesRead, ReadsTo}
use Rattle.hotel_statements.specs.declared.whole_tables.WholeTables.{WholeTables}
use Rattle.hotel_statements.specs.Upgrade.{AreRoomsFor, IsWholeOf}
use Rattle.hotel_tables.specs.Applied.{LeavesAll}
use Rattle.hotel_tables.specs.TableBooks.{IsCounted}

abbrev pub fits_natural : Option (Vec PlainFit Global) → Bool
fits_natural None = true
fits_natural (Some fits) = list_all fit_natural fits.items

-- no number is below 0
abbrev pub all_natural : Stored → Bool
all_natural s =
    may_be_natural s.day && list_all room_natural s.room.items && list_all stay_natural s.stay.items
    && list_all code_natural s.code.items
    && list_all card_natural s.card.items && list_all inside_natural s.inside.items
    && list_all note_natural s.note.items
    && fits_natural s.fit

-- the one row of meta, of a version, and that it isn't there
abbrev pub IsMetaRow : Version → List PlainMeta → PlainMeta → Type 0
IsMetaRow version meta plain =
    (meta ≡ plain ∷ []) × (plain.id ≡ pos 1) × (plain.version ≡ pos (number_of_version version))

abbrev pub LacksRow : Version → List PlainMeta → Type 0
LacksRow version meta = (plain : PlainMeta) → ¬ IsMetaRow version meta plain

abbrev pub id_inside : NumberedInside → ℤ
id_inside l = l.id

abbrev pub plain_inside : NumberedInside → PlainInside
plain_inside l = l.plain

-- The plain rows are those of the tables of a version, in the order of their keys, and meta has its one row.
pub record AreStored (version : Version) (s : Stored) (db : Trees) : Type 0 where
  pub meta : map meta_columns (db meta_tree)
      ≡ (Int (pos 1) ∷ Int (pos (number_of_version version)) ∷ maybe s.day ∷ []) ∷ []
  pub kinds : AreRowsInOrder kind_columns kind_shown kind_order s.kind.items (db kind_tree)
  pub rooms : AreRowsInOrder room_columns room_shown room_order s.room.items (db room_tree)
  pub stays : AreRowsInOrder stay_columns stay_shown stay_order s.stay.items (db stay_tree)
  pub codes : AreRowsInOrder code_columns code_shown code_order s.code.items (db code_tree)
  pub cards : AreRowsInOrder card_columns card_shown card_order s.card.items (db card_tree)
  pub inside : AreRowsInOrder inside_columns inside_shown inside_order s.inside.items (db inside_tree)
  pub notes : AreRowsInOrder note_columns note_shown note_order s.note.items (db note_tree)
  pub fits : AreFitRows version s.fit db

-- the rows of those inside have numbers, no two the same
abbrev pub AreApartInside : Trees → Type 0
AreApartInside db = AllByRecursion HasId (db inside_tree) × AreApartIds (db inside_tree)

-- meta has exactly one row, the first, of this version
abbrev pub HasMetaRow : Version → Trees → Type 0
HasMetaRow version db =
    (row : Row) × (db meta_tree ≡ row ∷ []) × (column (meta_columns row) 0 ≡ Int (pos 1))
    × (column (meta_columns row) 1 ≡ Int (pos (number_of_version version)))

-- What was read is nothing that a query shows of the tables of a version, or that the rules leave: two rows inside have
-- one number, or a number is below 0 though no table is damaged.
abbrev pub IsUnshown : Version → Trees → Type 0
IsUnshown version db =
    ((t : WholeTables) × AreTablesRead version t db × (¬ AreApart int_cmp (map id_inside t.inside.items)))
    ⊎ ((s : Stored) × AreStored version s db × (first_damaged_of s ≡ None) × (all_natural s ≡ false))

-- What a fault says of the tables of a version, where this is what it says of the calls: Store is reported where a call
-- failed, or of rows that no query shows; and never of tables that lack the row of meta.
abbrev pub FaultFits : Type 0 → Version → Trees → OpenFault → Type 0
FaultFits failed version db fault.Memory = Unit {0}
FaultFits failed version db fault.Store = failed ⊎ (HasMetaRow version db × IsUnshown version db)
FaultFits failed version db fault.NotADesk = ¬ HasMetaRow version db
FaultFits failed version db (fault.Damaged t) = (s : Stored) × AreStored version s db × (first_damaged_of s ≡ Some t)

-- what a fault says of a database that is laid out as a desk's, where this is what it says of the calls
abbrev pub FaultFitsIn : (Version → Type 0) → Database → OpenFault → Type 0
FaultFitsIn failed db why =
    (layout : Layout) → db.schema ≡ schema_of layout
    → FaultFits (failed (version_of layout)) (version_of layout) db.trees why

-- the reading of the tables of a version failed for this cause
abbrev pub FailsToRead : Version → State → State → LookFault → Type 0
FailsToRead version old new why = ReadsTo version (AreTablesRead version) old new (Err why)

-- Memory is reported of the tables of a version where a call failed for want of it, as this says, or once they were all
-- read.
abbrev pub MemoryFitsIn : (Version → Type 0) → State → State → OpenFault → Type 0
MemoryFitsIn failed old new why =
    why ≡ fault.Memory → (layout : Layout) → old.now.schema ≡ schema_of layout
    → failed (version_of layout)
    ⊎ ((t : WholeTables) × ReadsTo (version_of layout) (AreTablesRead (version_of layout)) old new (Ok t))

-- the database is laid out as a desk's: it has the tables of one of the versions, and the first ones of our indexes
abbrev pub IsLaidOut : Schema → Type 0
IsLaidOut schema = (layout : Layout) × (schema ≡ schema_of layout)

-- and something is missing that a new desk has
abbrev pub Lacks : Layout → Schema → Type 0
Lacks layout schema = (is_whole layout ≡ false) × (schema ≡ schema_of layout)

-- The tables are those of a desk, however it is laid out, and what it holds is sound.
abbrev pub IsSoundDesk : State → Type 0
IsSoundDesk s = (layout : Layout) × IsDeskOf layout s × IsSound (rows_of_version (version_of layout) s.now.trees)

-- What a desk lacked was made, and its rows stayed; a whole one is as it was.
abbrev pub Continues : Database → Database → Type 0
Continues old new =
    ((old.schema ≡ desk_schema) × (new ≡ old))
    ⊎ ((layout : Layout) × Lacks layout old.schema × (new.schema ≡ desk_schema)
    × (rows_in new.trees ≡ rows_of_version (version_of layout) old.trees))

-- the trees are the whole of the desk that is made of one that lacked something
abbrev pub IsCompleted : Database → Trees → Type 0
IsCompleted old db = (layout : Layout) × Lacks layout old.schema × IsWholeOf (version_of layout) old.trees db

-- of a database that is laid out as a desk's and lacks something, this is so
abbrev pub IfLacking : Database → Type 0 → Type 0
IfLacking old P = (layout : Layout) → Lacks layout old.schema → P

-- What the opening of a desk says of the connection of its books, from old to new: it continues the desk, and what it
-- holds is sound. A crash leaves what it could leave before, or the whole desk that is made of one that lacked
-- something. The connection is open where the disk returned what was written.
pub record IsOpened (old new : State) : Type 0 where
  pub schema : IsLaidOut old.now.schema
  pub was : IsKept new → IsKept old
  pub continues : IsKept new → Continues old.now new.now
  pub sound : IsKept new → IsSound (rows_in new.now.trees)
  pub crash : IsKept old → Survives old new (IsCompleted old.now)
  -- once what was missing is made, a crash leaves that
  pub whole : IfLacking old.now (IsKept new → LeavesAll new)
  pub vouched : HasCleanDisk new → IsKept new

-- What the making of a desk in a database that has nothing says of the connection of its books, from old to new: they
-- are empty. A crash leaves what it could leave before, or the whole of a new desk. The connection is open where the
-- disk returned what was written.
pub record IsCreated (old new : State) : Type 0 where
  pub empty : IsKept new → rows_in new.now.trees ≡ no_rows
  pub was : IsKept new → IsKept old
  pub vouched : HasCleanDisk new → IsKept new
  pub crash : Survives old new IsEmptyDesk

-- memory ran out, or a call of the store failed
abbrev pub IsOfCall : OpenFault → Type 0
IsOfCall fault.Memory = Unit {0}
IsOfCall fault.Store = Unit {0}
IsOfCall fault.NotADesk = ⊥
IsOfCall (fault.Damaged t) = ⊥

-- it is no desk's, or memory ran out
abbrev pub IsNoDesk : OpenFault → Type 0
IsNoDesk fault.Memory = Unit {0}
IsNoDesk fault.Store = ⊥
IsNoDesk fault.NotADesk = Unit {0}
IsNoDesk (fault.Damaged t) = ⊥

abbrev pub fault_for : LookFault → OpenFault
fault_for look.Memory = fault.Memory
fault_for look.Store = fault.Store

-- the rooms whose first fits an upgrade adds: those of a desk of the first version
abbrev pub rooms_for : Version → List PlainRoom → List ℕ
rooms_for First rooms = map room_key rooms
rooms_for Second rooms = []

-- What is found in the trees of a version's tables, whose rows are sound: what books count of these, and the rooms that
-- an upgrade asks for.
pub record IsFound (version : Version) (found : Found) (db : Trees) : Type 0 where
  pub tables : AreTablesOf version db
  pub counted : IsCounted found.counts.kinds found.counts.nights (rows_of_version version db)
  pub rooms : AreRoomsFor version found.rooms.items db

-- What the reading of a version's tables promises, of a connection from old to new: what is found there, and what a
-- fault says of the tables. Where it is answered over a disk that returned what was written, the connection is open.
-- It changes no row, and a crash in it leaves nothing new.
pub record Opens (version : Version) (old new : State) (result : Result Found OpenFault) : Type 0 where
  pub ours : IsOurs version new
  pub keeps : KeepsRows old new
  pub found : IsKept new → IfOk result (λ found. IsFound version found old.now.trees)
  pub fault : HasCleanDisk new → IfErr result (FaultFits (FailsToRead version old new look.Store) version old.now.trees)
  -- a reading that failed is reported by its cause
  pub reading : (r : Result WholeTables LookFault) × ReadsTo version (AreTablesRead version) old new r
      × IfErr r (λ why. result ≡ Err (fault_for why))
  pub open_on : HasCleanDisk new → OnOk result (IsTrue new.is_open)
  pub crash : LeavesNoMore old new

-- What the opening of a desk promises, of a connection from old to new: its books, what is counted of their rows, and
-- what a fault says of the tables, where this is what it says of the calls by their cause. Where it is answered over a
-- disk that returned what was written, the connection is open. A crash in it, or after it, leaves what it could leave
-- before, or the whole desk that is made of one that lacked something.
pub record Enters (fails : LookFault → Version → Type 0) (old new : State) (result : Result Counts OpenFault)
    : Type 0 where
  pub autocommit : new.in_transaction ≡ false
  pub books : OnOk result (IsBooks new)
  pub was : IsKept new → IsKept old
  pub continues : IsKept new → OnOk result (Continues old.now new.now)
  -- once what was missing is made, a crash leaves that
  pub whole : IfLacking old.now (IsKept new → OnOk result (LeavesAll new))
  pub same : IsKept new → OnErr result (new.now ≡ old.now)
  pub counted : IsKept new → IfOk result (λ c. IsCounted c.kinds c.nights (rows_in new.now.trees))
  pub open_on : HasCleanDisk new → OnOk result (IsTrue new.is_open)
  pub fault : HasCleanDisk new → IfErr result (FaultFitsIn (fails look.Store) old.now)
  pub memory : IfErr result (MemoryFitsIn (fails look.Memory) old new)
  pub crash : IsKept old → Survives old new (IsCompleted old.now)

-- Over this store nothing but its own calls writes, as in memory: each state of a connection is clean.
abbrev pub IsAlwaysClean : {S : Type 0} → (Held S → State) → Type 0
IsAlwaysClean {S} shown = (c : Held S) → HasCleanDisk (shown c)
