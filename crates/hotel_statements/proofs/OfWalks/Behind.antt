-- The walk over the rooms that are left behind.
use Rattle.std.proofs.Common.{if◌then◌else◌, ◌≡◌, ◌&&◌, ◌∙◌, refl, sym, ap, ap₂, subst, List, [], ◌∷◌, ◌++◌, ℕ, suc}
use Rattle.std.proofs.Common.{◌+◌, ◌-◌, ◌<◌, ◌≤◌, ◌^◌, pos, Bool, true, false, Option, Some, None, map, filter}
use Rattle.std.proofs.Common.{flat_map, length, Less, nat_cmp, eqb, arith}
use Rattle.std.specs.Prelude.{filter_map, option_map, nat_le, nat_lt}
use Rattle.std.specs.List.{AllByRecursion, list_all}
use Rattle.std.specs.Option.{option_to_list}
use Rattle.std.specs.List.Sorted.{IsPermutation}
use Rattle.std.proofs.lemmas.Bool.Decides.{nat_tests}
use Rattle.std.proofs.lemmas.Cmp.{nat_cmp_total}
use Rattle.std.specs.Prelude.{◌-ℤ◌}
use Rattle.std.proofs.Math.IntN.{pos-+ℤ-pos, -ℤ_one}
use Rattle.sqlite_keyed.proofs.ListLemmas.{all_both, ascending-map, map-map, ascending_weaker, all_weaker, all_unmap}
use Rattle.sqlite_keyed.proofs.ListLemmas.{flat_map_none, flat_map_same_on, flat_map-map}
use Rattle.sqlite_keyed.proofs.SortLemmas.{IsPermutation-sort_by}
use Rattle.sqlite_value.specs.declared.value.Value.{Value}
use Rattle.sqlite_value.specs.declared.value.Value.TheVariants.{Int}
use Rattle.sqlite_value.specs.declared.keys.Collation.TheVariants.{Binary}
use Rattle.sqlite_value.specs.declared.keys.Key.{Key}
use Rattle.sqlite_value.specs.Keys.{ascending}
use Rattle.sqlite_sql.specs.Numeral.{if_fits}
use Rattle.sqlite_sql.specs.declared.ops.BinaryOp.TheVariants.{Compare, Arith}
use Rattle.sqlite_sql.specs.declared.ops.ArithOp.TheVariants.{Add, Sub}
use Rattle.sqlite_sql.specs.declared.ops.CompareOp.TheVariants.{Eq, Lt}
use Rattle.sqlite.specs.Ops.{binary, is_true, int_or, real_arith, from_int}
use Rattle.sqlite.specs.Order.{Row, column}
use Rattle.sqlite.specs.Query.{Query, Join, inner, end, Output, output, output_cmp, matches}
use Rattle.sqlite.specs.Program.{overlay}
use Rattle.sqlite.specs.Term.{Term, lit, col, holds}
use Rattle.sqlite_sql.specs.Term.{op2}
use Rattle.sqlite.specs.Tree.{Trees, IsAscending}
use Rattle.keycard_rules.specs.declared.numbers.TheConstants.{LAST_FIT, LAST_NUMBER}
use Rattle.hotel_model.specs.declared.rows.CodeRow.{CodeRow}
use Rattle.hotel_model.specs.declared.rows.RoomRow.{RoomRow}
use Rattle.hotel_model.specs.declared.rows.FitRow.{FitRow}
use Rattle.hotel_model.specs.declared.list_rows.BehindRow.{BehindRow}
use Rattle.hotel_model.specs.Words.{said_of}
use Rattle.hotel_model.specs.Rows.{Rows, at_number, fits_at}
use Rattle.hotel_model.specs.SoundRooms.{count_up}
use Rattle.hotel_model.specs.Sound.{IsSound}
use Rattle.hotel_model.specs.Refinement.ListsOnRows.{awaited_on, behind_row_on, left_behind_on}
use Rattle.hotel_model.specs.Refinement.Lookups.{code_at}
use Rattle.hotel_model.proofs.OfTables.Tests as tests
use Rattle.hotel_model.proofs.OfTables.RowTests.{found_passes}
use Rattle.hotel_model.proofs.OfTables.Tests.{le_from, lt_from}
use Rattle.hotel_model.proofs.Starts.StartCodes.{room_is}
use Rattle.hotel_statements.specs.Trees.{room_tree, code_tree}
use Rattle.hotel_statements.specs.Schema.{compare}
use Rattle.hotel_statements.specs.Values.{int}
use Rattle.hotel_statements.specs.Columns.{room_columns, room_of, room_written, code_columns, code_of, code_written}
use Rattle.hotel_statements.specs.Tables.{AreTables, IsWrittenAs, by_key, rows_in, bare_rooms_in}
use Rattle.hotel_statements.specs.LookUps.{AnswersAll}
use Rattle.hotel_statements.specs.Walks.{behind_row_of}
use Rattle.hotel_statements.proofs.Risen.{codes_rise, rooms_rise}
use Rattle.hotel_statements.proofs.Joins.{fitted, joined_there, values_kept}
use Rattle.hotel_statements.proofs.Keys.{equals, and_true}
use Rattle.hotel_statements.proofs.Perm.{every_shuffled}
use Rattle.hotel_statements.proofs.Keyed.{key_total}
use Rattle.hotel_statements.proofs.Ordered.{int_order, then_nothing}
use Rattle.hotel_statements.proofs.OfWalks.Compared.{less_than}
use Rattle.hotel_statements.proofs.OfWalks.SoundCodes.{finds_itself, standing}
use Rattle.hotel_statements.proofs.OfWalks.Joined.{over, sorted_answer, one_more_table, last_table, where_it_passes}
use Rattle.hotel_statements.proofs.OfWalks.Joined.{made_of_each, rise_alike, said_of_each}

-- ---- sums of numbers in statements, where 64 bits hold them

fitting : (n : ℕ) → n < 2 ^ 63 → if_fits (pos n) ≡ Some (pos n)
fitting n low =
    let fits : nat_lt n (2 ^ 63) ≡ true = grind (arith, nat_tests) in ap (λ b. if b then Some (pos n) else None) fits

plus : (a b : ℕ) → a + b < 2 ^ 63 → binary (Arith Add) (int a) (int b) ≡ int (a + b)
unfolding binary
plus a b low =
    ap (λ z. int_or (if_fits z) (real_arith Add (from_int (pos a)) (from_int (pos b)))) (pos-+ℤ-pos a b)
    ∙ ap (λ o. int_or o (real_arith Add (from_int (pos a)) (from_int (pos b)))) (fitting (a + b) low)

minus_one : (n last : ℕ) → n ≡ suc last → last < 2 ^ 63 → binary (Arith Sub) (int n) (int 1) ≡ int last
unfolding binary
minus_one n last is low =
    ap (λ m. int_or (if_fits (pos m -ℤ pos 1)) (real_arith Sub (from_int (pos m)) (from_int (pos 1)))) is
    ∙ ap (λ z. int_or (if_fits z) (real_arith Sub (from_int (pos (suc last))) (from_int (pos 1))))
    (-ℤ_one (pos (suc last)))
    ∙ ap (λ o. int_or o (real_arith Sub (from_int (pos (suc last))) (from_int (pos 1)))) (fitting last low)

abbrev test : List Term
test =
    compare Eq (col 2 2) (col 1 0) ∷ compare Eq (col 2 3) (col 1 3) ∷ compare Eq (col 3 2) (col 1 0)
    ∷ compare Eq (col 3 3) (op2 (Arith Sub) (col 1 4) (lit (Int (pos 1))))
    ∷ compare Lt (op2 (Arith Add) (col 1 3) (lit (Int (pos 2)))) (col 1 4) ∷ []

abbrev project : List Term
project = col 1 0 ∷ col 2 0 ∷ col 3 0 ∷ col 1 3 ∷ col 1 4 ∷ []

abbrev order : List (Term × Key)
order = (col 1 0, ascending Binary) ∷ []

abbrev tables : Join
tables = inner room_tree (inner code_tree (inner code_tree end))

abbrev pub behind_query : Query
behind_query = over tables test project order

abbrev Room : Type 0
Room = ℕ × RoomRow

abbrev Placed : Type 0
Placed = ℕ × CodeRow

-- a room, the code that its lock holds and its last one
abbrev Left : Type 0
Left = Room × (ℕ × ℕ)

abbrev shown : Left → Output
shown y = (int y.0.0 ∷ [], int y.0.0 ∷ int y.1.0 ∷ int y.1.1 ∷ int y.0.1.lock_place ∷ int y.0.1.codes ∷ [])

abbrev from_columns : Row → Row → Row → Output
from_columns rc xc yc = (column rc 0 ∷ [], column rc 0 ∷ column xc 0 ∷ column yc 0 ∷ column rc 2 ∷ column rc 3 ∷ [])

abbrev stands : ℕ → ℕ → Placed → Bool
stands room place x = eqb x.1.room room && eqb x.1.place place

-- two codes or more come after the one that the lock holds
abbrev late : Room → Bool
late e = nat_lt (e.1.lock_place + 2) e.1.codes

abbrev are_there : Room → Placed → Placed → Bool
are_there e x y = stands e.0 e.1.lock_place x && (stands e.0 (e.1.codes - 1) y && late e)

grouped : (a b c d f : Bool) → (a && (b && (c && (d && (f && true))))) ≡ ((a && b) && ((c && d) && f))
grouped true true true true f = and_true f
grouped true true true false f = refl
grouped true true false d f = refl
grouped true false c d f = refl
grouped false b c d f = refl

-- a room has few fits
fits_low : (rows : Rows) → IsSound rows → (k : ℕ) (row : RoomRow) → at_number rows.rooms k ≡ Some row
    → length (fits_at rows.fits row.room) ≤ 99
fits_low rows sound k row there =
    let all = (tests.and_true _ _ sound.fit_number).1 in
    let one = found_passes (λ (e : Room). (count_up 1 (map (λ (f : FitRow). f.fit) (fits_at rows.fits e.1.room))
    && nat_le 1 (length (fits_at rows.fits e.1.room))) && nat_le (length (fits_at rows.fits e.1.room)) 99)
    rows.rooms k row all there in
    le_from (length (fits_at rows.fits row.room)) 99 (tests.and_true _ _ one).1

never : (a b : Bool) → (a && (b && false)) ≡ false
never true true = refl
never true false = refl
never false b = refl

module _ (db : Trees) (t : AreTables db) (sound : IsSound (rows_in db)) where
  abbrev rows : Rows
  rows = rows_in db

  -- the rooms, as their table has them
  abbrev rooms : List Room
  rooms = bare_rooms_in db

  -- each room is found by its number, and its lock stands at one of its codes, which are few
  abbrev Known : Room → Type 0
  Known e = at_number rooms e.0 ≡ Some e.1

  -- with its last fit, it is among the rows
  abbrev row_at : Room → RoomRow
  row_at e = fitted rows.fits e.0 e.1

  there : (e : Room) → Known e → at_number rows.rooms e.0 ≡ Some (row_at e)
  there e known = joined_there rows.fits rooms e known

  lock_low : (e : Room) → Known e → e.1.lock_place < e.1.codes
  lock_low e known = lt_from _ _ (found_passes (λ (e : Room). nat_lt e.1.lock_place e.1.codes) rows.rooms e.0
      (row_at e) sound.room_lock_place (there e known))

  codes_low : (e : Room) → Known e → e.1.codes ≤ LAST_NUMBER + LAST_FIT
  codes_low e known =
      let few = le_from e.1.codes (length rows.cards + length (fits_at rows.fits e.1.room))
      (found_passes (λ (e : Room). nat_le e.1.codes (length rows.cards + length (fits_at rows.fits e.1.room)))
      rows.rooms e.0 (row_at e) sound.room_codes (there e known)) in
      let cards : length rows.cards ≤ LAST_NUMBER = le_from (length rows.cards) LAST_NUMBER
      (tests.and_true _ (nat_le (length rows.cards) LAST_NUMBER) sound.card_number).1 in
      let fits = fits_low rows sound e.0 (row_at e) (there e known) in
      omega (arith, few, cards, fits)

  abbrev GoodRoom : Row → Type 0
  GoodRoom r = IsWrittenAs room_columns room_of room_written r × Known (room_of (room_columns r))

  good_rooms : AllByRecursion GoodRoom (db room_tree)
  good_rooms =
      all_both _ _ GoodRoom (λ r good known. (good, known)) (db room_tree) t.room.good
      (all_unmap Known (λ r. room_of (room_columns r)) (db room_tree)
      (every_shuffled Known rooms (map (λ r. room_of (room_columns r)) (db room_tree))
      (IsPermutation-sort_by (by_key nat_cmp) (key_total nat_cmp_total) _) (finds_itself rooms (rooms_rise db t))))

  tests_there : (r c d : Row) → GoodRoom r → IsWrittenAs code_columns code_of code_written c
      → IsWrittenAs code_columns code_of code_written d
      → list_all (holds ([] ∷ r ∷ c ∷ d ∷ [])) test
      ≡ are_there (room_of (room_columns r)) (code_of (code_columns c)) (code_of (code_columns d))
  tests_there r c d room held last =
      let e = room_of (room_columns r) in
      let x = code_of (code_columns c) in
      let y = code_of (code_columns d) in
      let lock = lock_low e room.1 in
      let few = codes_low e room.1 in
      let eq : Value → Value → Bool = λ v w. is_true (binary (Compare Eq Binary) v w) in
      let number = ap (λ v. column v 0) room.0 in
      let place = ap (λ v. column v 2) room.0 in
      let codes = ap (λ v. column v 3) room.0 in
      let at_room : eq (column c 2) (column r 0) ≡ eqb x.1.room e.0 =
      ap₂ eq (ap (λ v. column v 1) held) number ∙ equals x.1.room e.0 in
      let at_lock : eq (column c 3) (column r 3) ≡ eqb x.1.place e.1.lock_place =
      ap₂ eq (ap (λ v. column v 2) held) place ∙ equals x.1.place e.1.lock_place in
      let in_room : eq (column d 2) (column r 0) ≡ eqb y.1.room e.0 =
      ap₂ eq (ap (λ v. column v 1) last) number ∙ equals y.1.room e.0 in
      let less_one : binary (Arith Sub) (column r 4) (int 1) ≡ int (e.1.codes - 1) =
      ap (λ v. binary (Arith Sub) v (int 1)) codes
      ∙ minus_one e.1.codes (e.1.codes - 1) (omega (arith, lock)) (omega (arith, few)) in
      let at_last : eq (column d 3) (binary (Arith Sub) (column r 4) (int 1)) ≡ eqb y.1.place (e.1.codes - 1) =
      ap₂ eq (ap (λ v. column v 2) last) less_one ∙ equals y.1.place (e.1.codes - 1) in
      let two_more : binary (Arith Add) (column r 3) (int 2) ≡ int (e.1.lock_place + 2) =
      ap (λ v. binary (Arith Add) v (int 2)) place ∙ plus e.1.lock_place 2 (omega (arith, lock, few)) in
      let is_late : is_true (binary (Compare Lt Binary) (binary (Arith Add) (column r 3) (int 2)) (column r 4))
      ≡ late e =
      ap₂ (λ v w. is_true (binary (Compare Lt Binary) v w)) two_more codes ∙ less_than (e.1.lock_place + 2) e.1.codes in
      ap₂ (λ a b. a && b) at_room (ap₂ (λ a b. a && b) at_lock
      (ap₂ (λ a b. a && b) in_room (ap₂ (λ a b. a && b) at_last (ap (λ a. a && true) is_late))))
      ∙ grouped (eqb x.1.room e.0) (eqb x.1.place e.1.lock_place) (eqb y.1.room e.0)
      (eqb y.1.place (e.1.codes - 1)) (late e)

  shows : (r c d : Row) → GoodRoom r → IsWrittenAs code_columns code_of code_written c
      → IsWrittenAs code_columns code_of code_written d
      → output behind_query ([] ∷ r ∷ c ∷ d ∷ [])
      ≡ shown (room_of (room_columns r), ((code_of (code_columns c)).0, (code_of (code_columns d)).0))
  shows r c d room held last =
      ap₂ (λ rc xc. from_columns rc xc (code_columns d)) room.0 held
      ∙ ap (from_columns (room_written (room_of (room_columns r))) (code_written (code_of (code_columns c)))) last

  abbrev with_held : Room → Placed → List Output
  with_held e x = flat_map (λ y. if are_there e x y then shown (e, (x.0, y.0)) ∷ [] else []) rows.codes

  abbrev lefts_of : Room → List Output
  lefts_of e = flat_map (with_held e) rows.codes

  matched : IsPermutation (map (output behind_query) (matches (overlay db []) test tables ([] ∷ [])))
      (flat_map lefts_of rooms)
  matched =
      one_more_table db test behind_query (by_key nat_cmp) (key_total nat_cmp_total) GoodRoom
      (λ r. room_of (room_columns r)) room_tree (inner code_tree (inner code_tree end)) ([] ∷ [])
      lefts_of good_rooms (λ r room.
      one_more_table db test behind_query (by_key nat_cmp) (key_total nat_cmp_total)
      (IsWrittenAs code_columns code_of code_written) (λ c. code_of (code_columns c)) code_tree (inner code_tree end)
      ([] ∷ r ∷ [])
      (with_held (room_of (room_columns r))) t.code.good (λ c held.
      one_more_table db test behind_query (by_key nat_cmp) (key_total nat_cmp_total)
      (IsWrittenAs code_columns code_of code_written) (λ d. code_of (code_columns d)) code_tree end ([] ∷ r ∷ c ∷ [])
      (λ y. if are_there (room_of (room_columns r)) (code_of (code_columns c)) y
      then shown (room_of (room_columns r), ((code_of (code_columns c)).0, y.0)) ∷ [] else []) t.code.good
      (λ d last. last_table db test behind_query ([] ∷ r ∷ c ∷ d ∷ []) _ _ (tests_there r c d room held last)
      (shows r c d room held last))))

  -- each room has one code that its lock holds, and one last
  abbrev left : Room → Bool → Option ℕ → Option ℕ → Option Left
  left e is_late held last =
      if is_late then said_of held None (λ code. option_map (λ current. (e, (code, current))) last) else None

  abbrev pair : Room → Option Left
  pair e = left e (late e) (code_at rows e.0 e.1.lock_place) (code_at rows e.0 (e.1.codes - 1))

  module _ (e : Room) (known : Known e) where
    abbrev lasts : List Placed
    lasts = filter (stands e.0 (e.1.codes - 1)) rows.codes

    abbrev with_code : Option ℕ → ℕ → List Output
    with_code last code = flat_map (λ current. shown (e, (code, current)) ∷ []) (option_to_list last)

    with_last : (x : Placed) → flat_map (λ y. if stands e.0 (e.1.codes - 1) y then shown (e, (x.0, y.0)) ∷ []
        else []) rows.codes ≡ with_code (code_at rows e.0 (e.1.codes - 1)) x.0
    with_last x =
        where_it_passes (stands e.0 (e.1.codes - 1)) (λ (y : Placed). shown (e, (x.0, y.0)) ∷ []) rows.codes
        ∙ sym (flat_map-map (λ current. shown (e, (x.0, current)) ∷ []) (λ (y : Placed). y.0) lasts)
        ∙ ap (flat_map (λ current. shown (e, (x.0, current)) ∷ []))
        (standing rows sound (codes_rise db t) e.0 (row_at e) (there e known) (e.1.codes - 1))

    one_held : (is_late : Bool) (x : Placed)
        → flat_map (λ y. if stands e.0 e.1.lock_place x && (stands e.0 (e.1.codes - 1) y && is_late)
        then shown (e, (x.0, y.0)) ∷ [] else []) rows.codes
        ≡ (if stands e.0 e.1.lock_place x
        then (if is_late then with_code (code_at rows e.0 (e.1.codes - 1)) x.0 else []) else [])
    one_held is_late x = by (stands e.0 e.1.lock_place x) is_late
      where
        by : (s l : Bool) → flat_map (λ y. if s && (stands e.0 (e.1.codes - 1) y && l)
            then shown (e, (x.0, y.0)) ∷ [] else []) rows.codes
            ≡ (if s then (if l then with_code (code_at rows e.0 (e.1.codes - 1)) x.0 else []) else [])
        by true true =
            flat_map_same_on _ _ (λ y. ap (λ b. if b then shown (e, (x.0, y.0)) ∷ [] else []) (and_true _)) rows.codes
            ∙ with_last x
        by true false = flat_map_none _ (λ y. ap (λ b. if b then shown (e, (x.0, y.0)) ∷ [] else [])
            (never true (stands e.0 (e.1.codes - 1) y))) rows.codes
        by false l = flat_map_none _ (λ y. refl) rows.codes

    some_of : (is_late : Bool) (held last : Option ℕ) → flat_map (λ code. if is_late then with_code last code
        else []) (option_to_list held) ≡ map shown (option_to_list (left e is_late held last))
    some_of true None last = refl
    some_of true (Some code) None = refl
    some_of true (Some code) (Some current) = refl
    some_of false None last = refl
    some_of false (Some code) last = refl

    pub one_left : lefts_of e ≡ map shown (option_to_list (pair e))
    one_left =
        let made = λ (code : ℕ). if late e then with_code (code_at rows e.0 (e.1.codes - 1)) code else [] in
        flat_map_same_on _ _ (one_held (late e)) rows.codes
        ∙ where_it_passes (stands e.0 e.1.lock_place) (λ (x : Placed). made x.0) rows.codes
        ∙ sym (flat_map-map made (λ (x : Placed). x.0) (filter (stands e.0 e.1.lock_place) rows.codes))
        ∙ ap (flat_map made) (standing rows sound (codes_rise db t) e.0 (row_at e) (there e known) e.1.lock_place)
        ∙ some_of (late e) (code_at rows e.0 e.1.lock_place) (code_at rows e.0 (e.1.codes - 1))

    -- what is said of it
    abbrev row_of : ℕ → ℕ → ℕ → BehindRow
    row_of room code current = record { room = room; held = code; current = current; awaited = awaited_on e.1 }

    said : (is_late : Bool) (held last : Option ℕ)
        → option_map (λ y. behind_row_of (shown y).1) (left e is_late held last)
        ≡ (if is_late then said_of held None (λ code. option_map (row_of e.0 code) last) else None)
    said true None last = refl
    said true (Some code) None = refl
    said true (Some code) (Some current) = refl
    said false held last = refl

    pub says : option_map (λ y. behind_row_of (shown y).1) (pair e) ≡ behind_row_on rows e.1
    says =
        let lock = lock_low e known in
        let as_late : late e ≡ nat_le 2 (awaited_on e.1) = grind (arith, nat_tests, lock) in
        said (late e) (code_at rows e.0 e.1.lock_place) (code_at rows e.0 (e.1.codes - 1))
        ∙ ap (λ b. if b then said_of (code_at rows e.0 e.1.lock_place) None
        (λ code. option_map (row_of e.0 code) (code_at rows e.0 (e.1.codes - 1))) else None) as_late
        ∙ ap (λ room. if nat_le 2 (awaited_on e.1) then said_of (code_at rows room e.1.lock_place) None
        (λ code. option_map (row_of room code) (code_at rows room (e.1.codes - 1))) else None)
        (sym (room_is rows sound e.0 (row_at e) (there e known)))

  all_left : (es : List Room) → AllByRecursion Known es → flat_map lefts_of es ≡ map shown (filter_map pair es)
  all_left es known = each es known ∙ made_of_each pair shown es
    where
      each : (es : List Room)
          → AllByRecursion Known es → flat_map lefts_of es ≡ flat_map (λ e. map shown (option_to_list (pair e))) es
      each [] known = refl
      each (e ∷ es) known = ap₂ (λ a b. a ++ b) (one_left e known.0) (each es known.1)

  of_room : (e : Room) (y : Left) → pair e ≡ Some y → y.0 ≡ e
  of_room e y is = by (late e) (code_at rows e.0 e.1.lock_place) (code_at rows e.0 (e.1.codes - 1)) is
    where
      by : (is_late : Bool) (held last : Option ℕ) → left e is_late held last ≡ Some y → y.0 ≡ e
      by true None last is = absurd cc
      by true (Some code) None is = absurd cc
      by true (Some code) (Some current) is =
          let same : (e, (code, current)) ≡ y = cc in sym (ap (λ (z : Left). z.0) same)
      by false held last is = absurd cc

  pub behind_said : (all : List BehindRow) → AnswersAll behind_row_of behind_query [] db all → all ≡ left_behind_on rows
  behind_said all a =
      let mine = filter_map pair rooms in
      let known = finds_itself rooms (rooms_rise db t) in
      let up : IsAscending (λ x y. output_cmp behind_query x y ≡ Less) (map shown mine) =
      ascending-map _ shown mine (ascending_weaker _ _ (λ x y less. then_nothing _ ∙ int_order x.0.0 y.0.0 ∙ less) mine
      (rise_alike pair (λ (a b : Room). by_key nat_cmp a b ≡ Less) (λ (y : Left). y.0) of_room rooms
      (rooms_rise db t))) in
      let same : IsPermutation (map (output behind_query) (matches (overlay db []) test tables ([] ∷ [])))
      (map shown mine) = subst (IsPermutation _) (all_left rooms known) matched in
      let shows = sorted_answer tables test project order (overlay db []) [] a.0 (map shown mine) a.1 same up in
      a.2 ∙ ap (map behind_row_of) (shows ∙ map-map (λ (o : Output). o.1) shown mine)
      ∙ map-map behind_row_of (λ y. (shown y).1) mine
      ∙ said_of_each pair (λ y. behind_row_of (shown y).1) (behind_row_on rows) rooms
      (all_weaker Known _ says rooms known)
      ∙ sym (values_kept rows.fits (behind_row_on rows) (λ last row. refl) rooms)
