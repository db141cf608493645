-- The walk over a room's codes: in the order of their places, they are those at the places 0 and on.
use Rattle.std.proofs.Common.{ℕ, zero, suc, ◌≡◌, ◌≤◌, ◌<◌, ◌+◌, Bool, false, Option, Some, List, [], ◌∷◌, ◌++◌, length}
use Rattle.std.proofs.Common.{map, filter, inl, inr, refl, ap, ap₂, sym, ◌∙◌, arith, Less, Ordering, nat_cmp, is_eq}
use Rattle.std.proofs.Common.{length-append, eqb}
use Rattle.std.specs.Prelude.{filter_map, option_map}
use Rattle.std.specs.List.{AllByRecursion, range_with_len, cons_option}
use Rattle.std.specs.Map.{values_of}
use Rattle.std.specs.Cmp.{IsTotalOrder}
use Rattle.std.proofs.lemmas.Bool.{cases_Bool}
use Rattle.std.proofs.lemmas.Bool.Decides.{nat_tests}
use Rattle.std.proofs.lemmas.Cmp.{nat_cmp_total, on_total}
use Rattle.std.proofs.lemmas.List.{length-map}
use Rattle.std.proofs.lemmas.List.Sums.{length-filter}
use Rattle.std.proofs.lemmas.List.Sorted.{IsPermutation-sym, length_permutation}
use Rattle.sqlite_keyed.specs.Lists.{sort_by}
use Rattle.sqlite_keyed.proofs.ListLemmas.{ascending-filter, all_both, ascending-map, all_map, map-map, all-filter}
use Rattle.sqlite_keyed.proofs.ListLemmas.{all_weaker}
use Rattle.sqlite_keyed.proofs.SortLemmas.{HasNoTies, IsPermutation-sort_by}
use Rattle.sqlite_value.specs.declared.keys.Collation.TheVariants.{Binary}
use Rattle.sqlite_value.specs.declared.keys.Key.{Key}
use Rattle.sqlite_value.specs.Keys.{ascending}
use Rattle.sqlite.specs.Order.{Row, column}
use Rattle.sqlite.specs.Query.{Query, Output}
use Rattle.sqlite.specs.Term.{Term, col}
use Rattle.sqlite.specs.Tree.{Trees, IsAscending}
use Rattle.hotel_model.specs.declared.rows.CodeRow.{CodeRow}
use Rattle.hotel_model.specs.declared.rows.RoomRow.{RoomRow}
use Rattle.hotel_model.specs.declared.list_rows.ChainRow.{ChainRow}
use Rattle.hotel_model.specs.Words.{said_of}
use Rattle.hotel_model.specs.Rows.{Rows}
use Rattle.hotel_model.specs.Sound.{IsSound}
use Rattle.hotel_model.specs.Refinement.ListsOnRows.{state_at, chain_row_on, chain_on}
use Rattle.hotel_model.specs.Refinement.Lookups.{room_at, code_at}
use Rattle.hotel_model.proofs.OfTables.Tests.{eq_from}
use Rattle.hotel_model.proofs.Starts.StartCodes.{counted, room_is}
use Rattle.hotel_statements.specs.Trees.{code_tree}
use Rattle.hotel_statements.specs.Values.{int}
use Rattle.hotel_statements.specs.Columns.{code_columns, code_of, code_written}
use Rattle.hotel_statements.specs.Tables.{AreTables, IsWrittenAs, by_key, rows_in}
use Rattle.hotel_statements.specs.LookUps.{AnswersAll}
use Rattle.hotel_statements.specs.Walks.{chain_row_of}
use Rattle.hotel_statements.proofs.Risen.{codes_rise}
use Rattle.hotel_statements.proofs.Answers.{single, passes}
use Rattle.hotel_statements.proofs.Statements.Terms.{column_is, columns}
use Rattle.hotel_statements.proofs.Keys.{and_true}
use Rattle.hotel_statements.proofs.Perm.{sort_rises, every_shuffled}
use Rattle.hotel_statements.proofs.Keyed.{key_total, column_equals}
use Rattle.hotel_statements.proofs.Ordered.{numbered_rows}
use Rattle.hotel_statements.proofs.OfWalks.Compared.{values_passing}
use Rattle.hotel_statements.proofs.OfWalks.SoundCodes.{Found, each_found, splits, code_found, filter_passing}

-- ---- numbers that rise, as many as there are in a range

below_all : (x b : ℕ) (ps : List ℕ) → AllByRecursion (λ p. nat_cmp x p ≡ Less) ps
    → IsAscending (λ p q. nat_cmp p q ≡ Less) ps → AllByRecursion (λ p. p < b) ps → x < b → x + length ps < b
below_all x b [] above up low first = omega (arith, first)
below_all x b (p ∷ ps) above up low first =
    let more = below_all p b ps up.0 up.1 low.1 low.0 in
    let next : x < p = grind (arith, nat_tests, above.0) in
    omega (arith, more, next)

full_range : (m n : ℕ) (ps : List ℕ) → IsAscending (λ p q. nat_cmp p q ≡ Less) ps → AllByRecursion (λ p. m ≤ p) ps
    → AllByRecursion (λ p. p < m + n) ps → length ps ≡ n → ps ≡ range_with_len m n
full_range m zero [] up low high long = refl
full_range m (suc n) [] up low high long = absurd (omega (arith, long))
full_range m zero (p ∷ ps) up low high long = absurd (omega (arith, long))
full_range m (suc n) (p ∷ ps) up low high long =
    let far = below_all p (m + suc n) ps up.0 up.1 high.1 high.0 in
    let first : p ≡ m = omega (arith, far, long, low.0) in
    let later = full_range (m + 1) n ps up.1
    (all_weaker _ (λ q. m + 1 ≤ q) (λ q less. grind (arith, nat_tests, less, first)) ps up.0)
    (all_weaker _ (λ q. q < m + 1 + n) (λ q less. omega (arith, less)) ps high.1) (omega (arith, long)) in
    ap₂ (λ q qs. q ∷ qs) first later

-- rows that are made of numbers, where each is made of one
all_made : {X R : Type 0} (f : ℕ → Option R) (at : X → ℕ) (said : X → R) (xs : List X)
    → AllByRecursion (λ x. f (at x) ≡ Some (said x)) xs → filter_map f (map at xs) ≡ map said xs
all_made f at said [] all = refl
all_made f at said (x ∷ xs) all = ap₂ cons_option all.0 (all_made f at said xs all.1)

abbrev Placed : Type 0
Placed = ℕ × CodeRow

abbrev of_room : ℕ → Placed → Bool
of_room room e = eqb e.1.room room

abbrev place_cmp : Placed → Placed → Ordering
place_cmp a b = nat_cmp a.1.place b.1.place

place_total : IsTotalOrder place_cmp
place_total = on_total (λ (e : Placed). e.1.place) nat_cmp_total

abbrev by_place : List (Term × Key)
by_place = (col 1 3, ascending Binary) ∷ []

abbrev pub chain_query : Query
chain_query = single code_tree (column_is 2 0 ∷ []) (columns (3 ∷ 0 ∷ [])) by_place

abbrev shown : Placed → Output
shown e = (int e.1.place ∷ [], int e.1.place ∷ int e.0 ∷ [])

module _ (db : Trees) (t : AreTables db) (sound : IsSound (rows_in db)) (room : ℕ) (row : RoomRow)
    (there : room_at (rows_in db) room ≡ Some row) where
  abbrev rows : Rows
  rows = rows_in db

  room_tests : (r : Row) → IsWrittenAs code_columns code_of code_written r
      → passes (column_is 2 0 ∷ []) (int room ∷ []) r ≡ of_room room (code_of (code_columns r))
  room_tests r good = and_true _ ∙ column_equals (column r 2) _ room (ap (λ v. column v 1) good)

  abbrev fs : List Placed
  fs = filter (of_room room) rows.codes

  -- those of the room, each of which is found, and no two at one place
  abbrev Here : Placed → Type 0
  Here e = Found rows sound (codes_rise db t) e × (e.1.room ≡ room)

  here : AllByRecursion Here fs
  here = all_both _ _ Here (λ e found is. (found, eq_from e.1.room room is)) fs
      (all-filter _ (of_room room) rows.codes (each_found rows sound (codes_rise db t)))
      (filter_passing (of_room room) rows.codes)

  code_there : (e : Placed) → Here e → code_at rows room e.1.place ≡ Some e.0
  code_there e is = code_found rows sound (codes_rise db t) room row there e is.0 is.1

  apart : (a b : Placed) → Here a → Here b → by_key nat_cmp a b ≡ Less → is_eq (place_cmp a b) ≡ false
  apart a b p q less = elim (cases_Bool (is_eq (place_cmp a b))) [
    | inl is ↦
        let place : a.1.place ≡ b.1.place = grind (arith, nat_tests, is) in
        let both : Some a.0 ≡ Some b.0 = sym (code_there a p) ∙ ap (code_at rows room) place ∙ code_there b q in
        let same : a.0 ≡ b.0 = cc in
        absurd (omega (arith, (let lower : a.0 < b.0 = grind (arith, nat_tests, less) in lower), same))
    | inr other ↦ other
  ]

  all_apart : (es : List Placed) → AllByRecursion Here es → IsAscending (λ a b. by_key nat_cmp a b ≡ Less) es
      → HasNoTies place_cmp place_total es
  all_apart [] all up = tt
  all_apart (e ∷ es) all up =
      (all_both Here _ _ (λ x is less. apart e x all.0 is less) es all.1 up.0, all_apart es all.1 up.1)

  no_ties : HasNoTies place_cmp place_total fs
  no_ties = all_apart fs here (ascending-filter _ (of_room room) rows.codes (codes_rise db t))

  abbrev mine : List Placed
  mine = sort_by place_cmp fs

  in_order : IsAscending (λ a b. place_cmp a b ≡ Less) mine
  in_order = sort_rises place_cmp place_total fs no_ties

  mine_here : AllByRecursion Here mine
  mine_here = every_shuffled Here fs mine (IsPermutation-sym _ _ (IsPermutation-sort_by place_cmp place_total fs)) here

  -- their places are 0 and on
  within : (e : Placed) → Here e → e.1.place < row.codes
  within e is =
      let at = splits rows sound (codes_rise db t) room row there e is.0 is.1 in
      let many : length (at.0 ++ e.0 ∷ at.1) ≡ row.codes =
      ap length (sym at.2) ∙ (counted rows sound room row there).many in
      omega (arith, many, length-append at.0 (e.0 ∷ at.1), at.3)

  as_many : length mine ≡ row.codes
  as_many =
      sym (length_permutation _ _ (IsPermutation-sort_by place_cmp place_total fs))
      ∙ sym (length-map fs (λ (e : Placed). e.1))
      ∙ ap length (values_passing (λ (at : CodeRow). eqb at.room room) rows.codes)
      ∙ length-filter (λ (at : CodeRow). eqb at.room room) (values_of rows.codes)
      ∙ (counted rows sound room row there).listed

  places : map (λ (e : Placed). e.1.place) mine ≡ range_with_len 0 row.codes
  places =
      full_range 0 row.codes (map (λ (e : Placed). e.1.place) mine)
      (ascending-map (λ p q. nat_cmp p q ≡ Less) (λ (e : Placed). e.1.place) mine in_order)
      (all_map (λ p. 0 ≤ p) (λ (e : Placed). e.1.place) mine
      (all_weaker Here (λ (e : Placed). 0 ≤ e.1.place) (λ e _. omega arith) mine mine_here))
      (all_map (λ p. p < 0 + row.codes) (λ (e : Placed). e.1.place) mine
      (all_weaker Here (λ (e : Placed). e.1.place < 0 + row.codes) (λ e is. omega (arith, within e is)) mine mine_here))
      (length-map mine (λ (e : Placed). e.1.place) ∙ as_many)

  abbrev said : Placed → ChainRow
  said e = chain_row_of row.lock_place (shown e).1

  makes : (e : Placed) → Here e → chain_row_on rows row e.1.place ≡ Some (said e)
  makes e is =
      let at : code_at rows row.room e.1.place ≡ Some e.0 =
      ap (λ r. code_at rows r e.1.place) (room_is rows sound room row there) ∙ code_there e is in
      ap (option_map (λ code. let r : ChainRow =
      record { place = e.1.place; code = code; state = state_at row.lock_place e.1.place } in r)) at

  pub codes_said : (all : List ChainRow)
      → AnswersAll (chain_row_of row.lock_place) chain_query (int room ∷ []) db all → all ≡ chain_on rows room
  codes_said all a =
      let shows : a.0 ≡ map (λ e. (shown e).1) mine =
      numbered_rows (by_key nat_cmp) (key_total nat_cmp_total) (IsWrittenAs code_columns code_of code_written)
      (λ r. code_of (code_columns r)) code_tree (column_is 2 0 ∷ []) (columns (3 ∷ 0 ∷ [])) (col 1 3) (int room ∷ [])
      (of_room room) (λ e. e.1.place) (λ e. (shown e).1) db a.0 mine t.code room_tests
      (λ r good. ap₂ (λ v w. (v ∷ [], v ∷ w ∷ [])) (ap (λ v. column v 2) good) (ap (λ v. column v 0) good))
      (IsPermutation-sym _ _ (IsPermutation-sort_by place_cmp place_total fs)) in_order a.1 in
      a.2 ∙ ap (map (chain_row_of row.lock_place)) shows ∙ map-map (chain_row_of row.lock_place) (λ e. (shown e).1) mine
      ∙ sym (all_made (chain_row_on rows row) (λ (e : Placed). e.1.place) said mine
      (all_weaker Here _ makes mine mine_here)) ∙ ap (filter_map (chain_row_on rows row)) places
      ∙ sym (ap (λ o. said_of o [] (λ row. filter_map (chain_row_on rows row) (range_with_len 0 row.codes))) there)
