-- Tables that are read, undamaged and without numbers below 0 are tables of a desk.
use Rattle.std.proofs.Common.{◌≡◌, refl, sym, ap, subst, ◌∙◌, List, [], ◌∷◌, map, ℕ, ℤ, pos, nat_cmp, true, false}
use Rattle.std.proofs.Common.{Bool, Less, Ordering, is_eq, Option, None, Result, Ok, Err, IfOk, IfErr, OnOk}
use Rattle.std.proofs.Common.{inl, inr, length}
use Rattle.std.proofs.lemmas.Result.{IfErr-weaker}
use Rattle.std.proofs.Common.{Vec, arith, Some}
use Rattle.std.specs.Prelude.{◌+◌, option_map, bytes_eq}
use Rattle.std.specs.List.{AllByRecursion, list_all, count_by}
use Rattle.std.specs.List.Sorted.{IsPermutation, IsSorted}
use Rattle.std.specs.Ordering.{int_cmp, is_lt}
use Rattle.std.specs.Cmp.Lexicographic.{slice_cmp}
use Rattle.std.specs.Map.{keys_of, values_of}
use Rattle.std.specs.declared.alloc.Global.{Global}
use Rattle.std.proofs.lemmas.Cmp.{nat_cmp_total, int_cmp_total, nat_list_cmp_total}
use Rattle.std.proofs.lemmas.List.Sorted.{IsPermutation-map, IsPermutation-sym, IsPermutation-refl, length_permutation}
use Rattle.sqlite_value.specs.declared.value.Value.{Value}
use Rattle.sqlite_value.specs.declared.value.Value.TheVariants.{Int}
use Rattle.sqlite_value.proofs.OrderLemmas.{value_cmp_total, value_cmp-Int}
use Rattle.sqlite_rules.specs.Edit.{id_in}
use Rattle.sqlite_trees.specs.Tree.{rowid}
use Rattle.sqlite.specs.Order.{Row, column, value_cmp}
use Rattle.sqlite.specs.Tree.{Trees, IsAscending}
use Rattle.sqlite.specs.State.{State}
use Rattle.sqlite.proofs.Callers.{one_permutation}
use Rattle.sqlite_keyed.proofs.SortLemmas.{sorted_is-sort_by}
use Rattle.sqlite_keyed.proofs.ListLemmas.{all_unmap, ascending_weaker, ascending-map}
use Rattle.keycard_rules.specs.declared.issued.LookFault.{LookFault}
use Rattle.keycard_rules.specs.declared.issued.LookFault.TheVariants as look
use Rattle.hotel_nights.specs.Block.{one_if}
use Rattle.hotel_model.specs.declared.rows.RoomRow.{RoomRow}
use Rattle.hotel_model.specs.Words.{pair_cmp, said_of}
use Rattle.hotel_model.specs.Rows.{at_number}
use Rattle.hotel_model.specs.Sound.{keys_in_order}
use Rattle.hotel_model.specs.SoundRooms.{are_in_order}
use Rattle.hotel_model.proofs.OfTables.Pairs.{pair_cmp_total}
use Rattle.hotel_model.proofs.OfTables.RowTests.{both}
use Rattle.hotel_model.proofs.OfTables.StayCounts.{count_first}
use Rattle.hotel_model.proofs.OfTables.KeysInOrder.{ordered}
use Rattle.hotel_model.proofs.OfTables.Tests.{and_true, eight_true}
use Rattle.hotel_statements.specs.declared.plain_rows.PlainMeta.{PlainMeta}
use Rattle.hotel_statements.specs.declared.plain_rows.NumberedInside.{NumberedInside}
use Rattle.hotel_rows.specs.declared.stored.PlainKind.{PlainKind}
use Rattle.hotel_rows.specs.declared.stored.PlainRoom.{PlainRoom}
use Rattle.hotel_rows.specs.declared.stored.PlainFit.{PlainFit}
use Rattle.hotel_rows.specs.declared.stored.PlainInside.{PlainInside}
use Rattle.hotel_rows.specs.declared.stored.Stored.{Stored}
use Rattle.hotel_statements.specs.declared.whole_tables.WholeTables.{WholeTables}
use Rattle.hotel_tables.specs.declared.opening.Found.{Found}
use Rattle.hotel_rows.specs.declared.open_fault.OpenFault.{OpenFault}
use Rattle.hotel_rows.specs.declared.open_fault.OpenFault.TheVariants as fault
use Rattle.hotel_statements.specs.Trees.{meta_tree, kind_tree, room_tree, stay_tree, code_tree, card_tree, inside_tree}
use Rattle.hotel_statements.specs.Trees.{note_tree, fit_tree}
use Rattle.hotel_statements.specs.Columns.{meta_columns, meta_of, meta_written, kind_columns, kind_of, kind_written}
use Rattle.hotel_statements.specs.Columns.{room_columns, room_of, room_written, stay_columns, stay_of, stay_written}
use Rattle.hotel_statements.specs.Columns.{code_columns, code_of, code_written, card_columns, card_of, card_written}
use Rattle.hotel_statements.specs.Columns.{inside_columns, inside_of, inside_written, note_columns, note_of}
use Rattle.hotel_statements.specs.Columns.{note_written, fit_columns, fit_of, fit_written}
use Rattle.hotel_rows.specs.Stored.{number_of, kind_text, room_entry, stay_entry, code_entry, card_entry, inside_pair}
use Rattle.hotel_rows.specs.Stored.{note_entry, fit_entry, first_fit, fits_of, rows_of}
use Rattle.hotel_rows.specs.Damage as damage
use Rattle.hotel_rows.specs.Damage.{columns_fit, first_damaged_of}
use Rattle.hotel_statements.specs.declared.version.Version.{Version}
use Rattle.hotel_statements.specs.declared.version.Version.TheVariants.{First, Second}
use Rattle.hotel_statements.specs.Tables.{AreApartIds, AreApart, AreTablesOf, IsFitTable, number_of_version, by_key}
use Rattle.hotel_statements.specs.Tables.{metas_in, fits_in, bare_rooms_in, bare_rows_in, rows_of_version}
use Rattle.hotel_tables.specs.TableBooks.{IsCounted}
use Rattle.hotel_statements.specs.PlainRows.{maybe, meta_shown, kind_shown, room_shown, stay_shown, code_shown}
use Rattle.hotel_statements.specs.PlainRows.{card_shown, inside_shown, numbered_shown, numbered_columns, note_shown}
use Rattle.hotel_statements.specs.PlainRows.{fit_shown, ArePlainRows, AreRowsInOrder, inside_order, numbered_order}
use Rattle.hotel_statements.specs.PlainRows.{may_be_natural, room_natural, stay_natural, code_natural, card_natural}
use Rattle.hotel_statements.specs.PlainRows.{inside_natural, note_natural, fit_natural}
use Rattle.hotel_statements.specs.WholeTables.{ReadsTo, AreFitRows, AreTablesRead}
use Rattle.hotel_statements.specs.Upgrade.{AreRoomsFor}
use Rattle.hotel_tables.specs.Opening.{AreStored, AreApartInside, IsMetaRow, IsFound, LacksRow, HasMetaRow}
use Rattle.hotel_tables.specs.Opening.{FaultFits, FailsToRead, Opens, fits_natural, all_natural, id_inside}
use Rattle.hotel_tables.specs.Opening.{plain_inside, fault_for, rooms_for}
use Rattle.hotel_rows.specs.Counts.{IsCountedOf}
use Rattle.hotel_rows.specs.Joined.{with_fit, under_fit, joined_with, initial_fits, FitEntries}
use Rattle.hotel_rows.proofs.OfCounts.{counted_rooms, named_kind}
use Rattle.hotel_rows.proofs.OfJoined.{keys_with_fit, keys_under_fit}
use Rattle.hotel_statements.proofs.Answers.{fused}
use Rattle.hotel_statements.proofs.InOrder.{in_order_of, sorted_of, mapped_in_order}
use Rattle.hotel_statements.proofs.Keyed.{key_total}
use Rattle.hotel_statements.proofs.Perm.{every_shuffled, apart_permuted, sort_rises}
use Rattle.hotel_statements.proofs.ReadBack.{read_back, tested_keys, tested_order}
use Rattle.hotel_statements.proofs.Naturals.{meta_good, kind_good, room_good, stay_good, code_good, card_good}
use Rattle.hotel_statements.proofs.Naturals.{inside_good, note_good, fit_good}
use Rattle.hotel_rows.proofs.OfDamage.Undamaged.{undamaged_is_sound}

-- ---- the row of meta

head : List Row → Row
head [] = []
head (r ∷ rs) = r

one_number : (at : ℕ) {m k : ℤ} (l : PlainMeta) (row : Row) → meta_columns row ∷ [] ≡ meta_shown l ∷ []
    → column (meta_shown l) at ≡ Int m → column (meta_columns row) at ≡ Int k → m ≡ k
unfolding head
one_number at l row same shown is =
    let e : column (meta_columns row) at ≡ column (meta_shown l) at =
    ap (λ (rows : List Row). column (head rows) at) same in
    ap id_in (sym shown ∙ sym e ∙ is)

pub lacks_row : (version : Version) (db : Trees) (meta : List PlainMeta)
    → ArePlainRows meta_columns meta_shown meta (db meta_tree) → LacksRow version meta → ¬ HasMetaRow version db
lacks_row version db [] plain_rows none has =
    let here : IsPermutation (map meta_columns (has.0 ∷ [])) [] =
    subst (λ rows. IsPermutation (map meta_columns rows) []) has.1 plain_rows in
    absurd (omega (arith, length_permutation _ _ here))
lacks_row version db (l ∷ []) plain_rows none has =
    let here : IsPermutation (meta_columns has.0 ∷ []) (meta_shown l ∷ []) =
    subst (λ rows. IsPermutation (map meta_columns rows) (meta_shown l ∷ [])) has.1 plain_rows in
    let same = sym (one_permutation (meta_columns has.0) (meta_shown l ∷ []) here) in
    none l (refl, one_number 0 l has.0 same refl has.2, one_number 1 l has.0 same refl has.3)
lacks_row version db (l ∷ k ∷ meta) plain_rows none has =
    let here : IsPermutation (map meta_columns (has.0 ∷ [])) (map meta_shown (l ∷ k ∷ meta)) =
    subst (λ rows. IsPermutation (map meta_columns rows) (map meta_shown (l ∷ k ∷ meta))) has.1 plain_rows in
    absurd (omega (arith, length_permutation _ _ here))

one_row : (n : ℕ) (day : Value) (rows : List Row) → map meta_columns rows ≡ (Int (pos 1) ∷ Int (pos n) ∷ day ∷ []) ∷ []
    → (row : Row) × (rows ≡ row ∷ []) × (column (meta_columns row) 0 ≡ Int (pos 1))
    × (column (meta_columns row) 1 ≡ Int (pos n))
unfolding head
one_row n day [] e = absurd (let w = ap length e in omega (arith, w))
one_row n day (r ∷ []) e =
    (r, refl, ap (λ (rows : List Row). column (head rows) 0) e, ap (λ (rows : List Row). column (head rows) 1) e)
one_row n day (r ∷ q ∷ rows) e = absurd (let w = ap length e in omega (arith, w))

-- stored rows have that of meta
pub stored_meta : {version : Version} (s : Stored) (db : Trees) → AreStored version s db → HasMetaRow version db
stored_meta {version} s db stored =
    one_row (number_of_version version) (maybe s.day) (db meta_tree) stored.meta

-- and so have those that were read
meta_only : (of : Version) (t : WholeTables) (db : Trees) (plain : PlainMeta) → AreTablesRead of t db
    → IsMetaRow of t.meta.items plain
    → map meta_columns (db meta_tree) ≡ (Int (pos 1) ∷ Int (pos (number_of_version of)) ∷ maybe plain.day ∷ []) ∷ []
meta_only of t db plain read meta =
    let one : IsPermutation (map meta_columns (db meta_tree)) (meta_shown plain ∷ []) =
    subst (λ ls. ArePlainRows meta_columns meta_shown ls (db meta_tree)) meta.0 read.0.0.0.0 in
    let only : map meta_columns (db meta_tree) ≡ meta_shown plain ∷ [] =
    one_permutation (meta_shown plain) _ (IsPermutation-sym _ _ one) in
    only ∙ ap (λ n. (Int n ∷ Int plain.version ∷ maybe plain.day ∷ []) ∷ []) meta.1
    ∙ ap (λ n. (Int (pos 1) ∷ Int n ∷ maybe plain.day ∷ []) ∷ []) meta.2

pub read_meta : (of : Version) (t : WholeTables) (db : Trees) (plain : PlainMeta) → AreTablesRead of t db
    → IsMetaRow of t.meta.items plain → HasMetaRow of db
read_meta of t db plain read meta =
    one_row (number_of_version of) (maybe plain.day) (db meta_tree) (meta_only of t db plain read meta)

-- ---- the rows inside, and their numbers

rising_passes : (ids : List ℤ) → IsAscending (λ a b. int_cmp a b ≡ Less) ids → are_in_order int_cmp ids ≡ true
rising_passes [] up = refl
rising_passes (a ∷ []) up = refl
rising_passes (a ∷ b ∷ ids) up = both _ _ (ap is_lt up.0.0) (rising_passes (b ∷ ids) up.1)

-- no two are the same exactly where the sorted ones rise
pub apart_in_order : (ids sorted : List ℤ) → IsPermutation ids sorted → IsSorted int_cmp sorted → AreApart int_cmp ids
    → are_in_order int_cmp sorted ≡ true
apart_in_order ids sorted same in_order apart =
    ap (are_in_order int_cmp) (sorted_is-sort_by int_cmp int_cmp_total ids sorted apart same in_order)
    ∙ rising_passes _ (sort_rises int_cmp int_cmp_total ids apart)

pub apart_ids : (ids sorted : List ℤ)
    → IsPermutation ids sorted → are_in_order int_cmp sorted ≡ true → AreApart int_cmp ids
apart_ids ids sorted same up =
    let apart : AreApart int_cmp sorted =
    ascending_weaker _ _ (λ a b less. ap is_eq less) sorted (tested_order int_cmp int_cmp_total sorted up) in
    apart_permuted int_cmp int_cmp_total sorted ids (IsPermutation-sym _ _ same) apart

all_ids : (plain_rows : List NumberedInside)
    → AllByRecursion (λ (v : Row). column v 0 ≡ Int (id_in (column v 0))) (map numbered_shown plain_rows)
all_ids [] = tt
all_ids (l ∷ plain_rows) = (refl, all_ids plain_rows)

first_ids : (plain_rows : List NumberedInside)
    → map (λ (v : Row). column v 0) (map numbered_shown plain_rows) ≡ map (λ (n : ℤ). Int n) (map id_inside plain_rows)
first_ids [] = refl
first_ids (l ∷ plain_rows) = ap (λ vs. Int l.id ∷ vs) (first_ids plain_rows)

pub ids_apart : (plain_rows : List NumberedInside) (db : Trees)
    → ArePlainRows numbered_columns numbered_shown plain_rows (db inside_tree)
    → IsAscending (λ a b. is_eq (int_cmp a b) ≡ false) (map id_inside plain_rows) → AreApartInside db
ids_apart plain_rows db same apart =
    let rows = db inside_tree in
    let ids : AllByRecursion (λ r. column (numbered_columns r) 0 ≡ Int (id_in (column (numbered_columns r) 0))) rows =
    all_unmap (λ (v : Row). column v 0 ≡ Int (id_in (column v 0))) numbered_columns rows
    (every_shuffled (λ (v : Row). column v 0 ≡ Int (id_in (column v 0))) (map numbered_shown plain_rows)
    (map numbered_columns rows) (IsPermutation-sym _ _ same) (all_ids plain_rows)) in
    let values : AreApart value_cmp (map (λ (n : ℤ). Int n) (map id_inside plain_rows)) =
    ascending-map (λ a b. is_eq (value_cmp a b) ≡ false) (λ (n : ℤ). Int n) (map id_inside plain_rows)
    (ascending_weaker _ _ (λ a b other. ap is_eq (value_cmp-Int a b) ∙ other) (map id_inside plain_rows) apart) in
    let moved : IsPermutation (map (λ (v : Row). column v 0) (map numbered_columns rows))
    (map (λ (v : Row). column v 0) (map numbered_shown plain_rows)) =
    IsPermutation-map (λ (v : Row). column v 0) _ _ same in
    let here : IsPermutation (map rowid rows) (map (λ (n : ℤ). Int n) (map id_inside plain_rows)) =
    subst (λ xs. IsPermutation xs (map (λ (n : ℤ). Int n) (map id_inside plain_rows)))
    (fused (λ (v : Row). column v 0) numbered_columns rows)
    (subst (IsPermutation (map (λ (v : Row). column v 0) (map numbered_columns rows))) (first_ids plain_rows) moved) in
    let all : AreApart value_cmp (map rowid rows) =
    apart_permuted value_cmp value_cmp_total _ _ (IsPermutation-sym _ _ here) values in
    (ids, ascending_unmapped rows all)
  where
    above : (a : Row) (rows : List Row) → AllByRecursion (λ v. is_eq (value_cmp (rowid a) v) ≡ false) (map rowid rows)
        → AllByRecursion (λ b. is_eq (value_cmp (rowid a) (rowid b)) ≡ false) rows
    above a [] h = tt
    above a (r ∷ rows) h = (h.0, above a rows h.1)

    ascending_unmapped : (rows : List Row) → AreApart value_cmp (map rowid rows) → AreApartIds rows
    ascending_unmapped [] h = tt
    ascending_unmapped (r ∷ rows) h = (above r rows h.0, ascending_unmapped rows h.1)

abbrev last_two : Row → Row
last_two v = column v 1 ∷ column v 2 ∷ []

plain_rows_of : (plain_rows : List NumberedInside)
    → map last_two (map numbered_shown plain_rows) ≡ map inside_shown (map plain_inside plain_rows)
plain_rows_of [] = refl
plain_rows_of (l ∷ plain_rows) = ap (λ vs. inside_shown l.plain ∷ vs) (plain_rows_of plain_rows)

inside_plain_rows : (plain_rows : List NumberedInside) (rows : List Row)
    → ArePlainRows numbered_columns numbered_shown plain_rows rows
    → ArePlainRows inside_columns inside_shown (map plain_inside plain_rows) rows
inside_plain_rows plain_rows rows same =
    subst (IsPermutation (map inside_columns rows)) (plain_rows_of plain_rows)
    (subst (λ xs. IsPermutation xs (map last_two (map numbered_shown plain_rows)))
    (fused last_two numbered_columns rows) (IsPermutation-map last_two _ _ same))

inside_in_order : (plain_rows : List NumberedInside) (rows : List Row)
    → AreRowsInOrder numbered_columns numbered_shown numbered_order plain_rows rows
    → AreRowsInOrder inside_columns inside_shown inside_order (map plain_inside plain_rows) rows
inside_in_order plain_rows rows are = (
  inside_plain_rows plain_rows rows are.0,
  sorted_of inside_order (map plain_inside plain_rows)
      (mapped_in_order inside_order plain_inside plain_rows (in_order_of numbered_order plain_rows are.1)),
)

pub stored_are : {of : Version} (t : WholeTables) (db : Trees) (plain : PlainMeta) (inside : Vec PlainInside Global)
    → AreTablesRead of t db → IsMetaRow of t.meta.items plain → inside.items ≡ map plain_inside t.inside.items
    → AreStored of (record {
      day = plain.day;
      kind = t.kinds;
      room = t.rooms;
      stay = t.stays;
      code = t.codes;
      card = t.cards;
      inside = inside;
      note = t.notes;
      fit = t.fits;
    }) db
stored_are {of} t db plain inside read meta same = record {
  meta = meta_only of t db plain read meta;
  kinds = read.0.0.1;
  rooms = read.0.1.0;
  stays = read.0.1.1;
  codes = read.1.0.0.0;
  cards = read.1.0.0.1;
  inside =
      subst (λ ls. AreRowsInOrder inside_columns inside_shown inside_order ls (db inside_tree)) (sym same)
      (inside_in_order t.inside.items (db inside_tree) read.1.0.1.0);
  notes = read.1.0.1.1;
  fits = read.1.1;
}

-- ---- the tables

pub each : {L : Type 0} (test : L → Bool) (P : L → Type 0) → ((l : L) → test l ≡ true → P l) → (ls : List L)
    → list_all test ls ≡ true → AllByRecursion P ls
each test P f [] h = tt
each test P f (l ∷ ls) h = let a = and_true (test l) (list_all test ls) h in (f l a.0, each test P f ls a.1)

pub each_two : {L : Type 0} (test also : L → Bool) (P : L → Type 0) → ((l : L) → test l ≡ true → also l ≡ true → P l)
    → (ls : List L) → list_all test ls ≡ true → list_all also ls ≡ true
    → AllByRecursion P ls
each_two test also P f [] h k = tt
each_two test also P f (l ∷ ls) h k =
    let a = and_true (test l) (list_all test ls) h in
    let b = and_true (also l) (list_all also ls) k in
    (f l a.0 b.0, each_two test also P f ls a.1 b.1)

pub all_kinds : (ls : List PlainKind)
    → AllByRecursion (λ l. (kind_shown l ≡ kind_written (kind_text l)) × (kind_of (kind_shown l) ≡ kind_text l)) ls
all_kinds [] = tt
all_kinds (l ∷ ls) = (kind_good l, all_kinds ls)

keys_mapped : {K V L : Type 0} (entry : L → K × V) (ls : List L)
    → keys_of (map entry ls) ≡ map (λ (e : K × V). e.0) (map entry ls)
keys_mapped entry [] = refl
keys_mapped entry (l ∷ ls) = ap (λ ks. (entry l).0 ∷ ks) (keys_mapped entry ls)

rising : {K V L : Type 0} {cmp : K → K → Ordering} (total : Rattle.std.specs.Cmp.IsTotalOrder cmp) (entry : L → K × V)
    (ls : List L) → are_in_order cmp (keys_of (map entry ls)) ≡ true
    → IsAscending (λ a b. by_key cmp a b ≡ Less) (map entry ls)
rising {K} {V} {L} {cmp} total entry ls e =
    tested_keys cmp total (λ (p : K × V). p.0) (map entry ls) (ap (are_in_order cmp) (sym (keys_mapped entry ls)) ∙ e)

-- ---- the fits

-- those that the tables of a version hold
abbrev pub fits_of_version : Version → Trees → FitEntries
fits_of_version First db = initial_fits (bare_rooms_in db)
fits_of_version Second db = fits_in db

joined_by_version : (version : Version) (db : Trees)
    → rows_of_version version db ≡ joined_with (fits_of_version version db) (bare_rows_in db)
joined_by_version First db = refl
joined_by_version Second db = refl

-- the fits that stored rooms began with
begun : (rooms : List PlainRoom) → initial_fits (map room_entry rooms) ≡ map fit_entry (map first_fit rooms)
begun [] = refl
begun (l ∷ rooms) = ap (λ es. fit_entry (first_fit l) ∷ es) (begun rooms)

abbrev pub entries_of : List PlainRoom → Option (Vec PlainFit Global) → FitEntries
entries_of rooms fits = map fit_entry (said_of fits (map first_fit rooms) (λ f. f.items))

abbrev AreFits : Version → Trees → FitEntries → Type 0
AreFits version db fits = IsFitTable version (db fit_tree) × (fits_of_version version db ≡ fits)

are_fits : (version : Version) (rooms : List PlainRoom) (fits : Option (Vec PlainFit Global)) (db : Trees)
    → AreFitRows version fits db → bare_rooms_in db ≡ map room_entry rooms → fits_natural fits ≡ true
    → are_in_order pair_cmp (keys_of (entries_of rooms fits)) ≡ true → AreFits version db (entries_of rooms fits)
are_fits First rooms None db are here natural up = (tt, ap initial_fits here ∙ begun rooms)
are_fits First rooms (Some fits) db are here natural up =
    absurd (let w : ◌≡◌ {A = Option (Vec PlainFit Global)} (Some fits) None = are in cc)
are_fits Second rooms None db are here natural up = absurd are
are_fits Second rooms (Some fits) db are here natural up =
    read_back (by_key pair_cmp) (key_total pair_cmp_total) fit_columns fit_of fit_written fit_shown fit_entry
    fits.items (db fit_tree) are.0
    (each fit_natural _ fit_good fits.items natural) (rising pair_cmp_total fit_entry fits.items up)

-- ---- the whole of the tables

-- No number of any table is below 0.
pub record AreNatural (s : Stored) : Type 0 where
  pub day : may_be_natural s.day ≡ true
  pub rooms : list_all room_natural s.room.items ≡ true
  pub stays : list_all stay_natural s.stay.items ≡ true
  pub codes : list_all code_natural s.code.items ≡ true
  pub cards : list_all card_natural s.card.items ≡ true
  pub inside : list_all inside_natural s.inside.items ≡ true
  pub notes : list_all note_natural s.note.items ≡ true
  pub fits : fits_natural s.fit ≡ true

pub naturals : (s : Stored) → all_natural s ≡ true → AreNatural s
naturals s natural =
    let n = eight_true (may_be_natural s.day) (list_all room_natural s.room.items)
    (list_all stay_natural s.stay.items) (list_all code_natural s.code.items) (list_all card_natural s.card.items)
    (list_all inside_natural s.inside.items) (list_all note_natural s.note.items) (fits_natural s.fit) natural in
    record {
      day = n.0;
      rooms = n.1;
      stays = n.2;
      codes = n.3;
      cards = n.4;
      inside = n.5;
      notes = n.6;
      fits = n.7;
    }

pub record AreDesk (version : Version) (s : Stored) (db : Trees) : Type 0 where
  pub tables : AreTablesOf version db
  pub rooms : bare_rooms_in db ≡ map room_entry s.room.items
  pub rows : rows_of_version version db ≡ rows_of s

pub are_desk : {version : Version} (s : Stored) (db : Trees) → AreStored version s db → AreApartInside db
    → keys_in_order (rows_of s) ≡ true → columns_fit s ≡ true → all_natural s ≡ true → AreDesk version s db
are_desk {version} s db a ids keys columns natural =
    let k = ordered (rows_of s) keys in
    let n = naturals s natural in
    let f2 = and_true _ (list_all damage.are_note_columns s.note.items) columns in
    let f1 =
    and_true (list_all damage.are_room_columns s.room.items) (list_all damage.are_stay_columns s.stay.items) f2.0 in
    let plain : PlainMeta = record { id = pos 1; version = pos (number_of_version version); day = s.day } in
    let meta_plain : ArePlainRows meta_columns meta_shown (plain ∷ []) (db meta_tree) =
    subst (λ xs. IsPermutation xs (meta_shown plain ∷ [])) (sym a.meta)
    (IsPermutation-refl (meta_shown plain ∷ [])) in
    let entry : PlainMeta → ℕ × (ℕ × Option ℕ) =
    λ l. (number_of l.id, (number_of l.version, option_map number_of l.day)) in
    let meta =
    read_back (by_key nat_cmp) (key_total nat_cmp_total) meta_columns meta_of meta_written meta_shown entry
    (plain ∷ []) (db meta_tree) meta_plain (meta_good plain refl refl n.day, tt) (tt, tt) in
    let kind = read_back (slice_cmp nat_cmp) nat_list_cmp_total kind_columns kind_of kind_written kind_shown kind_text
    s.kind.items (db kind_tree) a.kinds.0 (all_kinds s.kind.items)
    (tested_order (slice_cmp nat_cmp) nat_list_cmp_total (map kind_text s.kind.items) k.kinds) in
    let room = read_back (by_key nat_cmp) (key_total nat_cmp_total) room_columns room_of room_written room_shown
    room_entry s.room.items (db room_tree) a.rooms.0
    (each_two room_natural damage.are_room_columns _ room_good s.room.items n.rooms f1.0)
    (rising nat_cmp_total room_entry s.room.items
    (ap (are_in_order nat_cmp) (sym (keys_with_fit (fits_of s) (map room_entry s.room.items))) ∙ k.rooms)) in
    let stay = read_back (by_key nat_cmp) (key_total nat_cmp_total) stay_columns stay_of stay_written stay_shown
    stay_entry s.stay.items (db stay_tree) a.stays.0
    (each_two stay_natural damage.are_stay_columns _ stay_good s.stay.items n.stays f1.1)
    (rising nat_cmp_total stay_entry s.stay.items k.stays) in
    let code = read_back (by_key nat_cmp) (key_total nat_cmp_total) code_columns code_of code_written code_shown
    code_entry s.code.items (db code_tree) a.codes.0
    (each code_natural _ code_good s.code.items n.codes) (rising nat_cmp_total code_entry s.code.items k.codes) in
    let card = read_back (by_key nat_cmp) (key_total nat_cmp_total) card_columns card_of card_written card_shown
    card_entry s.card.items (db card_tree) a.cards.0
    (each card_natural _ card_good s.card.items n.cards) (rising nat_cmp_total card_entry s.card.items k.cards) in
    let inside = read_back pair_cmp pair_cmp_total inside_columns inside_of inside_written inside_shown inside_pair
    s.inside.items (db inside_tree) a.inside.0
    (each inside_natural _ inside_good s.inside.items n.inside)
    (tested_order pair_cmp pair_cmp_total (map inside_pair s.inside.items) k.inside) in
    let note = read_back (by_key pair_cmp) (key_total pair_cmp_total) note_columns note_of note_written note_shown
    note_entry s.note.items (db note_tree) a.notes.0
    (each_two note_natural damage.are_note_columns _ note_good s.note.items n.notes f2.1)
    (rising pair_cmp_total note_entry s.note.items
    (ap (are_in_order pair_cmp) (sym (keys_under_fit (fits_of s) (map note_entry s.note.items))) ∙ k.notes)) in
    let fit : AreFits version db (fits_of s) = are_fits version s.room.items s.fit db a.fits room.1 n.fits k.fits in
    let metas : metas_in db ≡ (1, (number_of_version version, option_map number_of s.day)) ∷ [] = meta.1 in
    let all : joined_with (fits_of_version version db) (bare_rows_in db) ≡ rows_of s = λ i. record {
      day = ap (λ (m : List (ℕ × (ℕ × Option ℕ))). said_of (at_number m 1) None (λ e. e.1)) metas i;
      kinds = kind.1 i;
      rooms = map (with_fit (fit.1 i)) (room.1 i);
      codes = code.1 i;
      stays = stay.1 i;
      cards = card.1 i;
      inside = inside.1 i;
      notes = map (under_fit (fit.1 i)) (note.1 i);
      fits = fit.1 i;
    } in
    record {
      tables = record {
        meta = meta.0;
        meta_row = (option_map number_of s.day, metas);
        kind = kind.0;
        room = room.0;
        stay = stay.0;
        code = code.0;
        card = card.0;
        inside = inside.0;
        inside_numbered = ids.0;
        inside_ids = ids.1;
        note = note.0;
        fit = fit.0;
      };
      rooms = room.1;
      rows = joined_by_version version db ∙ all;
    }

-- ---- what is opened

abbrev is_kind : List ℕ → RoomRow → Bool
is_kind kind row = bytes_eq row.kind kind

-- rooms that are joined with their fits are of their kinds
joined_kinds : (kind : List ℕ) (fits : FitEntries) (es : List (ℕ × RoomRow))
    → count_by (is_kind kind) (values_of es) ≡ count_by (is_kind kind) (values_of (map (with_fit fits) es))
joined_kinds kind fits [] = refl
joined_kinds kind fits (e ∷ es) =
    count_first (is_kind kind) e.1 (values_of es) ∙ ap (λ n. one_if (is_kind kind e.1) + n) (joined_kinds kind fits es)
    ∙ sym (count_first (is_kind kind) (with_fit fits e).1 (values_of (map (with_fit fits) es)))

numbers_are : (rooms : List PlainRoom)
    → keys_of (map room_entry rooms) ≡ map (λ (r : PlainRoom). number_of r.room) rooms
numbers_are [] = refl
numbers_are (r ∷ rooms) = ap (λ ns. number_of r.room ∷ ns) (numbers_are rooms)

rooms_there : (version : Version) (rooms : List ℕ) (ls : List PlainRoom) (db : Trees)
    → bare_rooms_in db ≡ map room_entry ls → rooms ≡ rooms_for version ls → AreRoomsFor version rooms db
rooms_there First rooms ls db there are = are ∙ sym (numbers_are ls) ∙ ap keys_of (sym there)
rooms_there Second rooms ls db there are = tt

-- what is found in stored rows that aren't damaged
abbrev pub IsFoundOf : Version → Stored → Found → Type 0
IsFoundOf version s found =
    IsCountedOf s found.counts × (first_damaged_of s ≡ None) × (all_natural s ≡ true)
    × (found.rooms.items ≡ rooms_for version s.room.items)

pub opened : (version : Version) (s : Stored) (db : Trees) (found : Found) → AreStored version s db × AreApartInside db
    → IsFoundOf version s found → IsFound version found db
opened version s db found a h =
    let sound = (undamaged_is_sound s).0 h.1 in
    let desk = are_desk s db a.0 a.1 sound.0.keys sound.1 h.2 in
    let here : IsCounted found.counts.kinds found.counts.nights (rows_of s) = record {
      sound = sound.0;
      known = λ kind there. h.0.1.1 kind (named_kind kind s.kind.items ∙ there);
      rooms = λ kind.
          h.0.0 kind ∙ counted_rooms kind s.room.items ∙ joined_kinds kind (fits_of s) (map room_entry s.room.items);
      stays = h.0.1.0;
    } in
    record {
      tables = desk.tables;
      counted = subst (IsCounted found.counts.kinds found.counts.nights) (sym desk.rows) here;
      rooms = rooms_there version found.rooms.items s.room.items db desk.rooms h.3;
    }

-- ---- the whole

-- of more calls that may have failed
pub fits_more : {P Q : Type 0} → (P → Q) → (version : Version) (db : Trees) (why : OpenFault)
    → FaultFits P version db why → FaultFits Q version db why
fits_more more version db fault.Memory fits = tt
fits_more more version db fault.Store (inl failed) = inl (more failed)
fits_more more version db fault.Store (inr unshown) = inr unshown
fits_more more version db fault.NotADesk fits = fits
fits_more more version db (fault.Damaged t) fits = fits

pub fits_call : (P : Type 0) (version : Version) (db : Trees) (why : LookFault) → (why ≡ look.Store → P)
    → FaultFits P version db (fault_for why)
fits_call P version db look.Memory failed = tt
fits_call P version db look.Store failed = inl (failed refl)

pub fits_memory : (P : Type 0) (version : Version) (db : Trees) (why : LookFault) → why ≡ look.Memory
    → FaultFits P version db (fault_for why)
fits_memory P version db why is = subst (λ w. FaultFits P version db (fault_for w)) (sym is) tt

always : {A : Type 0} {P : Type 0} (r : Result A OpenFault) → P → OnOk r P
always (Ok a) p = p
always (Err e) p = tt

pub opens_to : {version : Version} (old new : State) (t : WholeTables) (result : Result Found OpenFault)
    → ReadsTo version (AreTablesRead version) old new (Ok t)
    → ((db : Trees) → AreTablesRead version t db → IfOk result (λ found. IsFound version found db))
    → ((db : Trees) → AreTablesRead version t db → IfErr result (FaultFits ⊥ version db)) → Opens version old new result
opens_to {version} old new t result reads ok err = record {
  ours = reads.ours;
  keeps = reads.keeps;
  found = λ kept. ok old.now.trees (reads.says kept);
  fault = λ clean.
      IfErr-weaker result _ _ (λ why. fits_more (λ none. absurd none) version old.now.trees why)
      (err old.now.trees (reads.says (clean, reads.open_on tt clean)));
  reading = (Ok t, reads, tt);
  open_on = λ clean. always result (reads.open_on tt clean);
  crash = reads.crash;
}

pub opens_not : (version : Version) (old new : State) (why : LookFault)
    → ReadsTo version (AreTablesRead version) old new (Err why) → Opens version old new (Err (fault_for why))
opens_not version old new why reads = record {
  ours = reads.ours;
  keeps = reads.keeps;
  found = λ _. tt;
  fault = λ _. fits_call _ version old.now.trees why (λ is. subst (λ w. FailsToRead version old new w) is reads);
  reading = (Err why, reads, refl);
  open_on = λ _. tt;
  crash = reads.crash;
}
