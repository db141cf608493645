-- A desk of whose tables one is written: of the nine lists one moves, and those of rooms and notes with the fits.
use Rattle.std.proofs.Common.{◌≡◌, ◌≢◌, true, inl, inr, refl, sym, ap, ap₂, subst, ◌∙◌, List, [], ◌∷◌, map, ℕ}
use Rattle.std.proofs.Common.{Option, None, IsTrue, Ordering, arith, eqb}
use Rattle.std.specs.Cmp.Lexicographic.{slice_cmp}
use Rattle.std.specs.Ordering.{nat_cmp}
use Rattle.std.specs.List.{AllByRecursion}
use Rattle.std.proofs.lemmas.Bool.{cases_Bool}
use Rattle.std.proofs.lemmas.Bool.Decides.{nat_tests}
use Rattle.sqlite.specs.Order.{Row}
use Rattle.sqlite.specs.Tree.{Trees}
use Rattle.sqlite_trees.specs.Tree.{with_tree}
use Rattle.sqlite.specs.Table.{Table}
use Rattle.sqlite.specs.Change.{KeepsRows}
use Rattle.sqlite.specs.Effect.{Database}
use Rattle.sqlite.specs.State.{State, Shows}
use Rattle.keycard_rules.specs.declared.card.Card.{Card}
use Rattle.keycard_rules.specs.Note.{Note}
use Rattle.hotel_nights.specs.declared.stay.Stay.{Stay}
use Rattle.hotel_model.specs.declared.rows.RoomRow.{RoomRow}
use Rattle.hotel_model.specs.declared.rows.CodeRow.{CodeRow}
use Rattle.hotel_model.specs.Words.{pair_cmp, said_of}
use Rattle.hotel_model.specs.Rows.{Rows, at_number}
use Rattle.hotel_rows.specs.Joined.{with_fit, under_fit, joined_with, FitEntries}
use Rattle.hotel_statements.specs.declared.version.Version.{Version}
use Rattle.hotel_statements.specs.declared.version.Version.TheVariants.{First}
use Rattle.hotel_statements.specs.Trees.{meta_tree, kind_tree, room_tree, stay_tree, code_tree, card_tree, inside_tree}
use Rattle.hotel_statements.specs.Trees.{note_tree, fit_tree}
use Rattle.hotel_statements.specs.Schema.{desk_schema, first_schema}
use Rattle.hotel_statements.specs.Columns.{meta_columns, meta_of, meta_written, kind_columns, kind_of, kind_written}
use Rattle.hotel_statements.specs.Columns.{room_columns, room_of, room_written, stay_columns, stay_of, stay_written}
use Rattle.hotel_statements.specs.Columns.{code_columns, code_of, code_written, card_columns, card_of, card_written}
use Rattle.hotel_statements.specs.Columns.{inside_columns, inside_of, inside_written, note_columns, note_of}
use Rattle.hotel_statements.specs.Columns.{note_written, fit_columns, fit_of, fit_written}
use Rattle.hotel_statements.specs.Tables.{AreMetas, AreKinds, AreRooms, AreStays, AreCodes, AreCards, AreInside}
use Rattle.hotel_statements.specs.Tables.{IsTable, AreNotes, AreFits, AreTables, AreTablesOf, IsFitTable, AreApartIds}
use Rattle.hotel_statements.specs.Tables.{HasId}
use Rattle.hotel_statements.specs.Tables.{metas_in, rows_in, fits_in, bare_rooms_in, bare_notes_in, bare_rows_in}
use Rattle.hotel_statements.specs.Tables.{in_key_order, by_key}
use Rattle.hotel_statements.specs.Steps.{MovesRows}

-- each table has the same rows in both
abbrev pub Same : Trees → Trees → Type 0
Same a b = AllByRecursion (λ (t : Table). b t.tree ≡ a t.tree) desk_schema.tables

-- the tables of the first version have the same rows in both
abbrev pub SameFirstTables : Trees → Trees → Type 0
SameFirstTables a b = KeepsRows first_schema.tables a b

pub same_tables : {version : Version} (a b : Trees) → SameFirstTables a b → AreTablesOf version a
    → IsFitTable version (b fit_tree)
    → AreTablesOf version b
same_tables a b same was fits = record {
  meta = subst AreMetas (sym same.0) was.meta;
  meta_row = (
    was.meta_row.0,
    ap (in_key_order (by_key nat_cmp) (λ r. meta_of (meta_columns r))) same.0 ∙ was.meta_row.1,
  );
  kind = subst AreKinds (sym same.1.0) was.kind;
  room = subst AreRooms (sym same.1.1.0) was.room;
  stay = subst AreStays (sym same.1.1.1.0) was.stay;
  code = subst AreCodes (sym same.1.1.1.1.0) was.code;
  card = subst AreCards (sym same.1.1.1.1.1.0) was.card;
  inside = subst AreInside (sym same.1.1.1.1.1.1.0) was.inside;
  inside_numbered = subst (AllByRecursion HasId) (sym same.1.1.1.1.1.1.0) was.inside_numbered;
  inside_ids = subst AreApartIds (sym same.1.1.1.1.1.1.0) was.inside_ids;
  note = subst AreNotes (sym same.1.1.1.1.1.1.1.0) was.note;
  fit = fits;
}

pub same_bare : (a b : Trees) → SameFirstTables a b → bare_rows_in b ≡ bare_rows_in a
same_bare a b same =
    let meta : b meta_tree ≡ a meta_tree = same.0 in
    let kind : b kind_tree ≡ a kind_tree = same.1.0 in
    let room : b room_tree ≡ a room_tree = same.1.1.0 in
    let stay : b stay_tree ≡ a stay_tree = same.1.1.1.0 in
    let code : b code_tree ≡ a code_tree = same.1.1.1.1.0 in
    let card : b card_tree ≡ a card_tree = same.1.1.1.1.1.0 in
    let inside : b inside_tree ≡ a inside_tree = same.1.1.1.1.1.1.0 in
    let note : b note_tree ≡ a note_tree = same.1.1.1.1.1.1.1.0 in
    rw (meta, kind, room, stay, code, card, inside, note) refl

pub same_fits : (a b : Trees) → b fit_tree ≡ a fit_tree → fits_in b ≡ fits_in a
same_fits a b same = ap (in_key_order (by_key pair_cmp) (λ r. fit_of (fit_columns r))) same

pub first_of_same : (a b : Trees) → Same a b → SameFirstTables a b × (b fit_tree ≡ a fit_tree)
first_of_same a b same =
    let last = same.1.1.1.1 in (
      (same.0, (same.1.0, (same.1.1.0, (same.1.1.1.0, (last.0, (last.1.0, (last.1.1.0, (last.1.1.1.0, tt)))))))),
      last.1.1.1.1.0,
    )

-- the rows are those without the fits, joined with them
pub same_desk : (a b : Trees) → Same a b → AreTables a → AreTables b × (rows_in b ≡ rows_in a)
same_desk a b same was =
    let parts = first_of_same a b same in (
      same_tables a b parts.0 was (subst AreFits (sym parts.1) was.fit),
      ap₂ joined_with (same_fits a b parts.1) (same_bare a b parts.0),
    )

-- ---- one table written

-- A statement left the schema, and wrote one table alone.
pub record Changed (tree : ℕ) (rows : List Row) (old new : State) : Type 0 where
  pub schema : new.now.schema ≡ desk_schema
  pub trees : Same (with_tree old.now.trees tree rows) new.now.trees

set_one : (db next : Trees) (tree : ℕ) (rows : List Row) (ts : List Table)
    → next tree ≡ rows → AllByRecursion (λ (t : Table). t.tree ≢ tree → next t.tree ≡ db t.tree) ts
    → AllByRecursion (λ (t : Table). next t.tree ≡ with_tree db tree rows t.tree) ts
set_one db next tree rows [] is others = tt
set_one db next tree rows (t ∷ ts) is others =
    let more = set_one db next tree rows ts is others.1 in
    elim (cases_Bool (eqb t.tree tree)) [
      | inl same ↦ let e : t.tree ≡ tree = grind (arith, nat_tests, same) in (ap next e ∙ is ∙ rw same refl, more)
      | inr other ↦
          let e : t.tree ≢ tree = (λ same. let no : eqb t.tree tree ≡ true = grind (arith, nat_tests, same) in
          absurd (let z = sym other ∙ no in cc)) in (others.0 e ∙ rw other refl, more)
    ]

pub changed : (old new : State) (next : Trees) (tree : ℕ) (rows : List Row)
    → new.now ≡ record { schema = desk_schema; trees = next } → next tree ≡ rows
    → AllByRecursion (λ (t : Table). t.tree ≢ tree → next t.tree ≡ old.now.trees t.tree) desk_schema.tables
    → Changed tree rows old new
changed old new next tree rows now is others = record {
  schema = ap (λ (d : Database). d.schema) now;
  trees = subst (λ (d : Database). Same (with_tree old.now.trees tree rows) d.trees) (sym now)
      (set_one old.now.trees next tree rows desk_schema.tables is others);
}

-- With these rows in the tree, the trees are those of a desk that has all this.
abbrev pub IsDeskWith : Trees → ℕ → List Row → Rows → Type 0
IsDeskWith db tree rows all = AreTables (with_tree db tree rows) × (rows_in (with_tree db tree rows) ≡ all)

pub steps : {tree : ℕ} {rows : List Row} (old new : State) (make : Rows → Rows)
    → Shows old new new.now old.committed true → Changed tree rows old new
    → IsDeskWith old.now.trees tree rows (make (rows_in old.now.trees)) → MovesRows old new make
steps {tree} {rows} old new make shown did now =
    let same = same_desk (with_tree old.now.trees tree rows) new.now.trees did.trees now.0 in record {
      was_open = shown.was_open;
      is_open = shown.is_open;
      committed = shown.committed_is;
      mid = record { schema = did.schema; inside = subst IsTrue (sym shown.mode) refl; tables = same.0 };
      rows_are = same.1 ∙ now.1;
    }

-- ---- which list moves

-- The rows are those of a table, whose entries in order are this list.
abbrev pub AreRowsOf : {X : Type 0} → (X → X → Ordering) → (Row → Row) → (Row → X) → (X → Row) → List Row → List X
    → Type 0
AreRowsOf cmp columns of written rows list =
    IsTable cmp columns of written rows × (in_key_order cmp (λ r. of (columns r)) rows ≡ list)

-- Each `assumption` is the record of the nine tables: that of these rows, and those of the other trees as they were.
module _ {db : Trees} {rows : List Row} (was : AreTables db) where
  pub kinds_set : {list : List (List ℕ)} → AreRowsOf (slice_cmp nat_cmp) kind_columns kind_of kind_written rows list
      → IsDeskWith db kind_tree rows (record (rows_in db) { kinds = list })
  kinds_set said =
      (assumption, ap (λ kinds. record (rows_in db) { kinds = kinds }) said.1)

  pub rooms_set : {list : List (ℕ × RoomRow)} → AreRowsOf (by_key nat_cmp) room_columns room_of room_written rows list
      → IsDeskWith db room_tree rows (record (rows_in db) { rooms = map (with_fit (fits_in db)) list })
  rooms_set said = (
    assumption,
    ap (λ rooms. record (rows_in db) { rooms = map (with_fit (fits_in db)) rooms }) said.1,
  )

  pub stays_set : {list : List (ℕ × Stay)} → AreRowsOf (by_key nat_cmp) stay_columns stay_of stay_written rows list
      → IsDeskWith db stay_tree rows (record (rows_in db) { stays = list })
  stays_set said =
      (assumption, ap (λ stays. record (rows_in db) { stays = stays }) said.1)

  pub codes_set : {list : List (ℕ × CodeRow)} → AreRowsOf (by_key nat_cmp) code_columns code_of code_written rows list
      → IsDeskWith db code_tree rows (record (rows_in db) { codes = list })
  codes_set said =
      (assumption, ap (λ codes. record (rows_in db) { codes = codes }) said.1)

  pub cards_set : {list : List (ℕ × Card)} → AreRowsOf (by_key nat_cmp) card_columns card_of card_written rows list
      → IsDeskWith db card_tree rows (record (rows_in db) { cards = list })
  cards_set said =
      (assumption, ap (λ cards. record (rows_in db) { cards = cards }) said.1)

  pub insides_set : {list : List (ℕ × ℕ)} → AreRowsOf pair_cmp inside_columns inside_of inside_written rows list
      → AllByRecursion HasId rows → AreApartIds rows
      → IsDeskWith db inside_tree rows (record (rows_in db) { inside = list })
  insides_set said numbered apart = (
    assumption,
    ap (λ inside. record (rows_in db) { inside = inside }) said.1,
  )

  pub notes_set : {list : List ((ℕ × ℕ) × Note)}
      → AreRowsOf (by_key pair_cmp) note_columns note_of note_written rows list
      → IsDeskWith db note_tree rows (record (rows_in db) { notes = map (under_fit (fits_in db)) list })
  notes_set said = (
    assumption,
    ap (λ notes. record (rows_in db) { notes = map (under_fit (fits_in db)) notes }) said.1,
  )

  pub fits_set : {list : FitEntries} → AreRowsOf (by_key pair_cmp) fit_columns fit_of fit_written rows list
      → IsDeskWith db fit_tree rows (record (rows_in db) {
        rooms = map (with_fit list) (bare_rooms_in db);
        notes = map (under_fit list) (bare_notes_in db);
        fits = list;
      })
  fits_set said = (
    assumption,
    ap (λ fits. record (rows_in db) {
      rooms = map (with_fit fits) (bare_rooms_in db);
      notes = map (under_fit fits) (bare_notes_in db);
      fits = fits;
    }) said.1,
  )

  pub day_set : {day : Option ℕ}
      → AreRowsOf (by_key nat_cmp) meta_columns meta_of meta_written rows ((1, (2, day)) ∷ [])
      → IsDeskWith db meta_tree rows (record (rows_in db) { day = day })
  day_set {day} said =
      let row : (day : Option ℕ) × (metas_in (with_tree db meta_tree rows) ≡ (1, (2, day)) ∷ []) = (day, said.1) in
      (assumption, rw said.1 refl)

-- the version of meta, where there are no fits
pub version_set : {db : Trees} {rows : List Row} (was : AreTablesOf First db) → db fit_tree ≡ []
    → AreRowsOf (by_key nat_cmp) meta_columns meta_of meta_written rows ((1, (2, was.meta_row.0)) ∷ [])
    → AreTables (with_tree db meta_tree rows) × (bare_rows_in (with_tree db meta_tree rows) ≡ bare_rows_in db)
    × (fits_in (with_tree db meta_tree rows) ≡ [])
version_set {db} {rows} was empty made =
    let day = was.meta_row.0 in
    let no_fits : AreFits [] = record { good = tt; apart = tt } in
    let fit : AreFits (db fit_tree) = subst AreFits (sym empty) no_fits in
    let row : (day : Option ℕ) × (metas_in (with_tree db meta_tree rows) ≡ (1, (2, day)) ∷ []) = (day, made.1) in
    let now : bare_rows_in (with_tree db meta_tree rows) ≡ record (bare_rows_in db) { day = day } = rw made.1 refl in
    let before : bare_rows_in db ≡ record (bare_rows_in db) { day = day } =
    ap (λ (metas : List (ℕ × (ℕ × Option ℕ))). let all : Rows = record (bare_rows_in db) {
      day = said_of (at_number metas 1) None (λ meta. meta.1);
    } in all) was.meta_row.1 in
    (assumption, now ∙ sym before, ap (in_key_order (by_key pair_cmp) (λ r. fit_of (fit_columns r))) empty)
