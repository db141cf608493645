-- What the look-ups of some rows in order find: a code at a place, the stays of a kind, the cards inside a room, and
-- the last number.
use Rattle.std.proofs.Common.{◌≡◌, ◌&&◌, inl, inr, refl, ap, ap₂, ◌∙◌, List, [], ◌∷◌, ℕ, Bool, None}
use Rattle.std.proofs.Common.{Some, Option, map, filter, Less, nat_cmp, eqb}
use Rattle.std.specs.Prelude.{option_map, bytes_eq}
use Rattle.std.specs.Map.{values_of}
use Rattle.std.proofs.lemmas.Bool.{cases_Bool}
use Rattle.std.proofs.lemmas.Cmp.{nat_cmp_total}
use Rattle.std.proofs.lemmas.List.Sorted.{IsPermutation-refl}
use Rattle.sqlite_keyed.proofs.ListLemmas.{map-map, ascending-filter}
use Rattle.sqlite_value.specs.declared.value.Value.TheVariants.{Text}
use Rattle.sqlite_value.specs.declared.keys.Collation.TheVariants.{Binary}
use Rattle.sqlite_sql.specs.declared.ops.BinaryOp.TheVariants.{Compare}
use Rattle.sqlite_sql.specs.declared.ops.CompareOp.TheVariants.{Eq}
use Rattle.sqlite.specs.Ops.{binary, is_true}
use Rattle.sqlite.specs.Order.{Row, column}
use Rattle.sqlite.specs.Query.{Query, IsAnswer}
use Rattle.sqlite.specs.Program.{overlay}
use Rattle.sqlite.specs.Term.{Term, col}
use Rattle.sqlite.specs.Tree.{Trees, IsAscending}
use Rattle.hotel_nights.specs.declared.stay.Stay.{Stay}
use Rattle.hotel_model.specs.declared.rows.CodeRow.{CodeRow}
use Rattle.hotel_model.specs.Words.{pair_cmp}
use Rattle.hotel_model.specs.Guests.{those_in}
use Rattle.hotel_model.specs.Refinement.Lookups.{code_at, first_code_at, stays_of_kind, inside_at}
use Rattle.hotel_model.proofs.OfTables.Pairs.{pair_cmp_total}
use Rattle.hotel_statements.specs.Trees.{stay_tree, code_tree, inside_tree}
use Rattle.hotel_statements.specs.Values.{number_of, int}
use Rattle.hotel_statements.specs.Columns.{stay_columns, stay_row_of, stay_of, stay_written, code_columns, code_of}
use Rattle.hotel_statements.specs.Columns.{code_written, inside_columns, inside_of, inside_written}
use Rattle.hotel_statements.specs.Tables.{AreTables, IsWrittenAs, by_key, rows_in}
use Rattle.hotel_statements.specs.LookUps.{AnswersFirst, AnswersAll}
use Rattle.hotel_statements.proofs.Answers.{single, passes}
use Rattle.hotel_statements.proofs.Statements.Terms.{by_pair, column_is, columns, all_seven}
use Rattle.hotel_statements.proofs.Keys.{equals_text, and_true}
use Rattle.hotel_statements.proofs.Perm.{sort_rises}
use Rattle.hotel_statements.proofs.Keyed.{key_total, column_equals}
use Rattle.hotel_statements.proofs.Risen.{stays_rise, codes_rise}
use Rattle.hotel_statements.proofs.Ordered.{numbered_rows, rising, room_rises, values_read}
use Rattle.hotel_statements.proofs.OfWalks.Compared.{values_passing}
use Rattle.hotel_statements.proofs.Finds.{room_tests}

-- ---- the code at a place

abbrev head_of : {X : Type 0} → List X → Option X
head_of [] = None
head_of (x ∷ xs) = Some x

-- the code stands at the place of the room
abbrev pub stands_at : ℕ → ℕ → ℕ × CodeRow → Bool
stands_at room place e = eqb e.1.room room && eqb e.1.place place

first_standing : (room place : ℕ) (es : List (ℕ × CodeRow))
    → option_map (λ (e : ℕ × CodeRow). e.0) (head_of (filter (stands_at room place) es)) ≡ first_code_at es room place
first_standing room place [] = refl
first_standing room place (e ∷ es) = elim (cases_Bool (stands_at room place e)) [
  | inl is ↦ rw is refl
  | inr other ↦ rw other (first_standing room place es)
]

first_shown : (fs : List (ℕ × CodeRow)) (o : Option ℕ) (rows : List Row)
    → rows ≡ map (λ (e : ℕ × CodeRow). int e.0 ∷ []) fs → o ≡ option_map (λ r. number_of (column r 0)) (head_of rows)
    → o ≡ option_map (λ (e : ℕ × CodeRow). e.0) (head_of fs)
first_shown [] o rows is first = first ∙ ap (λ rs. option_map (λ r. number_of (column r 0)) (head_of rs)) is
first_shown (f ∷ fs) o rows is first = first ∙ ap (λ rs. option_map (λ r. number_of (column r 0)) (head_of rs)) is

module _ (db : Trees) (t : AreTables db) where
  place_tests : (room place : ℕ) (r : Row) → IsWrittenAs code_columns code_of code_written r
      → passes (by_pair 2 3) (int room ∷ int place ∷ []) r ≡ stands_at room place (code_of (code_columns r))
  place_tests room place r good =
      ap₂ (λ x y. x && y) (column_equals (column r 2) _ room (ap (λ v. column v 1) good))
      (and_true _ ∙ column_equals (column r 3) _ place (ap (λ v. column v 2) good))

  abbrev code_query : Query
  code_query = single code_tree (by_pair 2 3) (columns (0 ∷ [])) (rising (col 1 0))

  code_rows : (room place : ℕ) (rows : List Row)
      → IsAnswer code_query (overlay db []) (int room ∷ int place ∷ []) rows
      → rows ≡ map (λ (e : ℕ × CodeRow). int e.0 ∷ []) (filter (stands_at room place) (rows_in db).codes)
  code_rows room place rows =
      let fs = filter (stands_at room place) (rows_in db).codes in
      numbered_rows (by_key nat_cmp) (key_total nat_cmp_total) (IsWrittenAs code_columns code_of code_written)
      (λ r. code_of (code_columns r)) code_tree (by_pair 2 3) (columns (0 ∷ [])) (col 1 0) (int room ∷ int place ∷ [])
      (stands_at room place) (λ e. e.0) (λ e. int e.0 ∷ []) db rows fs t.code (place_tests room place)
      (λ r good. ap (λ v. (v ∷ [], v ∷ [])) (ap (λ v. column v 0) good)) (IsPermutation-refl fs)
      (ascending-filter _ (stands_at room place) (rows_in db).codes (codes_rise db t))

  pub code_at_finds : (room place : ℕ) (o : Option ℕ)
      → AnswersFirst (λ v. number_of (column v 0)) code_query (int room ∷ int place ∷ []) db o
      → o ≡ code_at (rows_in db) room place
  code_at_finds room place None a =
      first_shown _ None [] (code_rows room place [] a) refl ∙ first_standing room place (rows_in db).codes
  code_at_finds room place (Some x) a =
      first_shown _ (Some x) (a.0 ∷ a.1) (code_rows room place _ a.2) (ap Some a.3)
      ∙ first_standing room place (rows_in db).codes

  -- ---- the stays that pass a test, and those of a kind

  abbrev pub stays_query : List Term → Query
  stays_query test = single stay_tree test all_seven (rising (col 1 0))

  pub stays_passing : (test : List Term) (params : Row) (p : Stay → Bool)
      → ((r : Row) → IsWrittenAs stay_columns stay_of stay_written r
      → passes test params r ≡ p (stay_of (stay_columns r)).1)
      → (all : List Stay) → AnswersAll stay_row_of (stays_query test) params db all
      → all ≡ filter p (values_of (rows_in db).stays)
  stays_passing test params p tests all a =
      let es = (rows_in db).stays in
      let fs = filter (λ (e : ℕ × Stay). p e.1) es in
      let rows : a.0 ≡ map stay_written fs =
      numbered_rows (by_key nat_cmp) (key_total nat_cmp_total) (IsWrittenAs stay_columns stay_of stay_written)
      (λ r. stay_of (stay_columns r)) stay_tree test all_seven (col 1 0) params (λ e. p e.1) (λ e. e.0) stay_written
      db a.0 fs t.stay tests (λ r good. ap₂ (λ v w. (v ∷ [], w)) (ap (λ v. column v 0) good) good)
      (IsPermutation-refl fs) (ascending-filter _ (λ (e : ℕ × Stay). p e.1) es (stays_rise db t)) a.1 in
      a.2 ∙ ap (map stay_row_of) rows
      ∙ values_read nat_cmp nat_cmp_total stay_columns stay_of stay_written stay_row_of (λ v. refl) (db stay_tree)
      t.stay (λ e. p e.1) ∙ values_passing p es

  of_kind_tests : (kind : List ℕ) (r : Row) → IsWrittenAs stay_columns stay_of stay_written r
      → passes (column_is 3 0 ∷ []) (Text kind ∷ []) r ≡ bytes_eq (stay_of (stay_columns r)).1.kind kind
  of_kind_tests kind r good =
      and_true _ ∙ ap (λ v. is_true (binary (Compare Eq Binary) v (Text kind))) (ap (λ v. column v 2) good)
      ∙ equals_text (stay_of (stay_columns r)).1.kind kind

  pub stays_find : (kind : List ℕ) (all : List Stay)
      → AnswersAll stay_row_of (stays_query (column_is 3 0 ∷ [])) (Text kind ∷ []) db all
      → all ≡ stays_of_kind (rows_in db) kind
  stays_find kind = stays_passing (column_is 3 0 ∷ []) (Text kind ∷ []) (λ stay. bytes_eq stay.kind kind)
      (of_kind_tests kind)

  -- ---- the cards inside a room

  abbrev is_in : ℕ → ℕ × ℕ → Bool
  is_in room e = eqb e.0 room

  abbrev inside_query : Query
  inside_query = single inside_tree (column_is 1 0 ∷ []) (columns (2 ∷ [])) (rising (col 1 2))

  those_listed : (room : ℕ) (es : List (ℕ × ℕ)) → map (λ (e : ℕ × ℕ). e.1) (filter (is_in room) es) ≡ those_in es room
  those_listed room [] = refl
  those_listed room (e ∷ es) = elim (cases_Bool (is_in room e)) [
    | inl is ↦ rw is (ap (λ xs. e.1 ∷ xs) (those_listed room es))
    | inr other ↦ rw other (those_listed room es)
  ]

  pub cards_find : (room : ℕ) (all : List ℕ)
      → AnswersAll (λ v. number_of (column v 0)) inside_query (int room ∷ []) db all → all ≡ inside_at (rows_in db) room
  cards_find room all a =
      let es = (rows_in db).inside in
      let rises : IsAscending (λ x y. pair_cmp x y ≡ Less) es = sort_rises pair_cmp pair_cmp_total _ t.inside.apart in
      let fs = filter (is_in room) es in
      let rows : a.0 ≡ map (λ (e : ℕ × ℕ). int e.1 ∷ []) fs =
      numbered_rows pair_cmp pair_cmp_total (IsWrittenAs inside_columns inside_of inside_written)
      (λ r. inside_of (inside_columns r)) inside_tree (column_is 1 0 ∷ []) (columns (2 ∷ [])) (col 1 2) (int room ∷ [])
      (is_in room) (λ e. e.1) (λ e. int e.1 ∷ []) db a.0 fs t.inside (room_tests db t room)
      (λ r good. ap (λ v. (v ∷ [], v ∷ [])) (ap (λ v. column v 1) good)) (IsPermutation-refl fs)
      (room_rises (λ e. e) room es rises) a.1 in
      a.2 ∙ ap (map (λ v. number_of (column v 0))) rows
      ∙ map-map (λ v. number_of (column v 0)) (λ (e : ℕ × ℕ). int e.1 ∷ []) fs ∙ those_listed room es
