-- What the trees of a desk's tables hold: for each table the list of its rows in the order of the key, whatever the
-- order of the tree.
use Rattle.std.specs.Prelude.{ℕ, ◌≡◌, false, List, [], ◌∷◌, map, Option, None}
use Rattle.std.specs.Ordering.{nat_cmp, is_eq}
use Rattle.std.specs.declared.cmp.Ordering.{Ordering}
use Rattle.std.specs.Cmp.Lexicographic.{slice_cmp}
use Rattle.std.specs.List.{AllByRecursion}
use Rattle.sqlite.specs.Order.{Row, value_cmp}
use Rattle.sqlite.specs.Tree.{Trees, IsAscending}
use Rattle.sqlite_trees.specs.Tree.{rowid}
use Rattle.sqlite_rules.specs.Edit.{id_in}
use Rattle.sqlite_value.specs.declared.value.Value.TheVariants.{Int}
use Rattle.sqlite_keyed.specs.Lists.{sort_by}
use Rattle.keycard_rules.specs.Note.{Note}
use Rattle.hotel_model.specs.declared.rows.RoomRow.{RoomRow}
use Rattle.hotel_model.specs.Words.{pair_cmp, said_of}
use Rattle.hotel_model.specs.Rows.{Rows, NoteKey, at_number}
use Rattle.hotel_rows.specs.Joined.{with_fit, under_fit, joined_with, initial_fits, FitEntries}
use Rattle.hotel_statements.specs.declared.version.Version.{Version}
use Rattle.hotel_statements.specs.declared.version.Version.TheVariants.{First, Second}
use Rattle.hotel_statements.specs.Trees.{meta_tree, kind_tree, room_tree, stay_tree, code_tree, card_tree, inside_tree}
use Rattle.hotel_statements.specs.Trees.{note_tree, fit_tree}
use Rattle.hotel_statements.specs.Columns.{meta_columns, meta_of, meta_written, kind_columns, kind_of, kind_written}
use Rattle.hotel_statements.specs.Columns.{room_columns, room_of, room_written, stay_columns, stay_of, stay_written}
use Rattle.hotel_statements.specs.Columns.{code_columns, code_of, code_written, card_columns, card_of, card_written}
use Rattle.hotel_statements.specs.Columns.{inside_columns, inside_of, inside_written, note_columns, note_of}
use Rattle.hotel_statements.specs.Columns.{note_written, fit_columns, fit_of, fit_written}

-- no two are equal in the order
abbrev pub AreApart : {X : Type 0} → (X → X → Ordering) → List X → Type 0
AreApart cmp = IsAscending (λ a b. is_eq (cmp a b) ≡ false)

-- in the order of the first of two
abbrev pub by_key : {K V : Type 0} → (K → K → Ordering) → K × V → K × V → Ordering
by_key cmp a b = cmp a.0 b.0

-- The rows of a table: each is good, and no two have one key.
pub record IsTableOf {X : Type 0} (cmp : X → X → Ordering) (Good : Row → Type 0) (of : Row → X)
    (rows : List Row) : Type 0 where
  pub good : AllByRecursion Good rows
  pub apart : AreApart cmp (map of rows)

-- what they say, in the order of the key
abbrev pub in_key_order : {X : Type 0} → (X → X → Ordering) → (Row → X) → List Row → List X
in_key_order cmp of rows = sort_by cmp (map of rows)

-- the columns of a row are those that the books write of what it says
abbrev pub IsWrittenAs : {X : Type 0} → (Row → Row) → (Row → X) → (X → Row) → Row → Type 0
IsWrittenAs columns of written r = columns r ≡ written (of (columns r))

-- A table whose rows have these columns, and are written so.
abbrev pub IsTable : {X : Type 0} → (X → X → Ordering) → (Row → Row) → (Row → X) → (X → Row) → List Row → Type 0
IsTable cmp columns of written = IsTableOf cmp (IsWrittenAs columns of written) (λ r. of (columns r))

-- those of each table
abbrev pub AreMetas : List Row → Type 0
AreMetas rows = IsTable (by_key nat_cmp) meta_columns meta_of meta_written rows

abbrev pub AreKinds : List Row → Type 0
AreKinds rows = IsTable (slice_cmp nat_cmp) kind_columns kind_of kind_written rows

abbrev pub AreRooms : List Row → Type 0
AreRooms rows = IsTable (by_key nat_cmp) room_columns room_of room_written rows

abbrev pub AreStays : List Row → Type 0
AreStays rows = IsTable (by_key nat_cmp) stay_columns stay_of stay_written rows

abbrev pub AreCodes : List Row → Type 0
AreCodes rows = IsTable (by_key nat_cmp) code_columns code_of code_written rows

abbrev pub AreCards : List Row → Type 0
AreCards rows = IsTable (by_key nat_cmp) card_columns card_of card_written rows

abbrev pub AreInside : List Row → Type 0
AreInside rows = IsTable pair_cmp inside_columns inside_of inside_written rows

abbrev pub AreNotes : List Row → Type 0
AreNotes rows = IsTable (by_key pair_cmp) note_columns note_of note_written rows

abbrev pub AreFits : List Row → Type 0
AreFits rows = IsTable (by_key pair_cmp) fit_columns fit_of fit_written rows

-- a row's number in its tree is an integer, and no two rows have the same
abbrev pub HasId : Row → Type 0
HasId r = rowid r ≡ Int (id_in (rowid r))

abbrev pub AreApartIds : List Row → Type 0
AreApartIds = IsAscending (λ a b. is_eq (value_cmp (rowid a) (rowid b)) ≡ false)

-- ---- the trees of the tables; the numbers between are those of their indexes

abbrev pub metas_in : Trees → List (ℕ × (ℕ × Option ℕ))
metas_in db = in_key_order (by_key nat_cmp) (λ r. meta_of (meta_columns r)) (db meta_tree)

-- the fits of all rooms
abbrev pub fits_in : Trees → FitEntries
fits_in db = in_key_order (by_key pair_cmp) (λ r. fit_of (fit_columns r)) (db fit_tree)

-- the rooms and the notes as their tables have them
abbrev pub bare_rooms_in : Trees → List (ℕ × RoomRow)
bare_rooms_in db = in_key_order (by_key nat_cmp) (λ r. room_of (room_columns r)) (db room_tree)

abbrev pub bare_notes_in : Trees → List (NoteKey × Note)
bare_notes_in db = in_key_order (by_key pair_cmp) (λ r. note_of (note_columns r)) (db note_tree)

-- The nine lists that the trees hold, those of rooms and notes joined with the fits.
abbrev pub rows_in : Trees → Rows
rows_in db = record {
  day = said_of (at_number (metas_in db) 1) None (λ meta. meta.1);
  kinds = in_key_order (slice_cmp nat_cmp) (λ r. kind_of (kind_columns r)) (db kind_tree);
  rooms = map (with_fit (fits_in db)) (bare_rooms_in db);
  stays = in_key_order (by_key nat_cmp) (λ r. stay_of (stay_columns r)) (db stay_tree);
  codes = in_key_order (by_key nat_cmp) (λ r. code_of (code_columns r)) (db code_tree);
  cards = in_key_order (by_key nat_cmp) (λ r. card_of (card_columns r)) (db card_tree);
  inside = in_key_order pair_cmp (λ r. inside_of (inside_columns r)) (db inside_tree);
  notes = map (under_fit (fits_in db)) (bare_notes_in db);
  fits = fits_in db;
}

-- the lists as their tables have them, without fits
abbrev pub bare_rows_in : Trees → Rows
bare_rows_in db = record (rows_in db) { rooms = bare_rooms_in db; notes = bare_notes_in db; fits = [] }

-- The lists that the tables of a version hold: in the first each room has the one fit that it began with.
abbrev pub rows_of_version : Version → Trees → Rows
rows_of_version First db = joined_with (initial_fits (bare_rooms_in db)) (bare_rows_in db)
rows_of_version Second db = rows_in db

-- the number of a version, which meta tells
abbrev pub number_of_version : Version → ℕ
number_of_version First = 1
number_of_version Second = 2

-- the table of the fits, which the first version doesn't have
abbrev pub IsFitTable : Version → List Row → Type 0
IsFitTable First rows = Unit {0}
IsFitTable Second rows = AreFits rows

-- The trees are those of the tables of a version, written by the books.
pub record AreTablesOf (version : Version) (db : Trees) : Type 0 where
  pub meta : AreMetas (db meta_tree)
  -- meta has one row, of the version
  pub meta_row : (day : Option ℕ) × (metas_in db ≡ (1, (number_of_version version, day)) ∷ [])
  pub kind : AreKinds (db kind_tree)
  pub room : AreRooms (db room_tree)
  pub stay : AreStays (db stay_tree)
  pub code : AreCodes (db code_tree)
  pub card : AreCards (db card_tree)
  pub inside : AreInside (db inside_tree)
  -- the numbers of its rows, by which one is deleted
  pub inside_numbered : AllByRecursion HasId (db inside_tree)
  pub inside_ids : AreApartIds (db inside_tree)
  pub note : AreNotes (db note_tree)
  pub fit : IsFitTable version (db fit_tree)

-- those of the second version, written by the books
abbrev pub AreTables : Trees → Type 0
AreTables = AreTablesOf Second
