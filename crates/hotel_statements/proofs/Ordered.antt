-- The rows of a query in the order that it asks for.
use Rattle.std.proofs.Common.{◌≡◌, inl, inr, refl, sym, ap, subst, ◌∙◌, List, [], ◌∷◌, ℕ, pos, Bool, map, filter, arith}
use Rattle.std.proofs.Common.{Less, Equal, Greater, Ordering, nat_cmp, true, eqb}
use Rattle.std.specs.List.{AllByRecursion}
use Rattle.std.specs.Ordering.{ordering_then}
use Rattle.std.specs.List.Sorted.{IsPermutation}
use Rattle.std.specs.Cmp.{IsTotalOrder}
use Rattle.std.proofs.lemmas.Bool.{cases_Bool}
use Rattle.std.proofs.lemmas.Bool.Decides.{nat_tests}
use Rattle.std.proofs.lemmas.List.Sorted.{IsPermutation-map, IsPermutation-sym, IsPermutation-trans}
use Rattle.sqlite_sql.proofs.QueryLemmas.{output_cmp_total}
use Rattle.sqlite_keyed.proofs.ListLemmas.{map-map, all_map, all_weaker, all-filter, ascending-map, ascending_weaker}
use Rattle.sqlite_keyed.proofs.SortLemmas.{sorted_unique, IsPermutation-sort_by}
use Rattle.sqlite_value.proofs.OrderLemmas.{value_cmp-Int}
use Rattle.sqlite_value.specs.declared.keys.Collation.TheVariants.{Binary}
use Rattle.sqlite_value.specs.declared.keys.Key.{Key}
use Rattle.sqlite_value.specs.Keys.{ascending}
use Rattle.sqlite.specs.Order.{Row, value_cmp}
use Rattle.sqlite.specs.Query.{IsAnswer, Output, output, output_cmp}
use Rattle.sqlite.specs.Program.{overlay}
use Rattle.sqlite.specs.Term.{Term}
use Rattle.sqlite.specs.Tree.{Trees, IsAscending}
use Rattle.hotel_model.specs.Words.{pair_cmp}
use Rattle.hotel_statements.specs.Values.{int}
use Rattle.hotel_statements.specs.Tables.{IsTableOf, IsTable, IsWrittenAs, in_key_order, by_key}
use Rattle.hotel_statements.proofs.Answers.{answered, single, env, passes}
use Rattle.hotel_statements.proofs.Perm.{every_shuffled}
use Rattle.hotel_statements.proofs.Found.{made_rows, map_all}
use Rattle.hotel_statements.proofs.Keyed.{key_total}

-- the order of two numbers as values
pub int_order : (a b : ℕ) → value_cmp (int a) (int b) ≡ nat_cmp a b
int_order a b = value_cmp-Int (pos a) (pos b) ∙ grind (arith, nat_tests)

-- by one column, from the least on
abbrev pub rising : Term → List (Term × Key)
rising term = (term, ascending Binary) ∷ []

pub then_nothing : (o : Ordering) → ordering_then o Equal ≡ o
then_nothing Less = refl
then_nothing Equal = refl
then_nothing Greater = refl

module _ {X : Type 0} (cmp : X → X → Ordering) (total : IsTotalOrder cmp) (Good : Row → Type 0) (of : Row → X) where
  -- what is known of each row is known of the sorted list
  pub all_listed : (P : X → Type 0) (rows : List Row)
      → AllByRecursion P (map of rows) → AllByRecursion P (in_key_order cmp of rows)
  all_listed P rows all = every_shuffled P (map of rows) (in_key_order cmp of rows)
      (IsPermutation-sym _ _ (IsPermutation-sort_by cmp total (map of rows))) all

  -- the answer, where these are what the query sorts by and shows, in an order that rises
  pub ordered_rows : (tree : ℕ) (test project : List Term) (order : List (Term × Key)) (params : Row) (q : X → Bool)
      (outs : X → Output) (db : Trees) (rows : List Row)
      (mine : List X)
      → IsTableOf cmp Good of (db tree) → ((r : Row) → Good r → passes test params r ≡ q (of r))
      → ((r : Row) → Good r → output (single tree test project order) (env params r) ≡ outs (of r))
      → IsPermutation (filter q (in_key_order cmp of (db tree))) mine
      → IsAscending (λ a b. output_cmp (single tree test project order) a b ≡ Less) (map outs mine)
      → IsAnswer (single tree test project order) (overlay db []) params rows → rows ≡ map (λ x. (outs x).1) mine
  ordered_rows tree test project order params q outs db rows mine was tests shows same up a =
      let it = answered tree test project order db params rows a in
      let made =
      made_rows cmp total Good of (passes test params) q (λ r. output (single tree test project order) (env params r))
      outs (db tree) was tests shows in
      let all : IsPermutation (map outs mine) it.ordered = IsPermutation-trans _ _ _
      (IsPermutation-sym _ _ (IsPermutation-trans _ _ _ made (IsPermutation-map outs _ _ same))) it.same in
      let sorted : it.ordered ≡ map outs mine =
      sorted_unique (output_cmp (single tree test project order)) (output_cmp_total (single tree test project order))
      (map outs mine) it.ordered up all it.sorted in
      it.shown ∙ ap (map (λ (x : Output). x.1)) sorted ∙ map-map (λ (x : Output). x.1) outs mine

  -- the answer, where the query sorts by a number and these rise in it
  pub numbered_rows : (tree : ℕ) (test project : List Term) (term : Term) (params : Row) (q : X → Bool) (n : X → ℕ)
      (shown : X → Row) (db : Trees) (rows : List Row) (mine : List X)
      → IsTableOf cmp Good of (db tree) → ((r : Row) → Good r → passes test params r ≡ q (of r))
      → ((r : Row) → Good r → output (single tree test project (rising term)) (env params r)
      ≡ (int (n (of r)) ∷ [], shown (of r)))
      → IsPermutation (filter q (in_key_order cmp of (db tree))) mine
      → IsAscending (λ a b. nat_cmp (n a) (n b) ≡ Less) mine
      → IsAnswer (single tree test project (rising term)) (overlay db []) params rows → rows ≡ map shown mine
  numbered_rows tree test project term params q n shown db rows mine was tests shows same up =
      ordered_rows tree test project (rising term) params q (λ e. (int (n e) ∷ [], shown e)) db rows mine was tests
      shows same
      (ascending-map _ _ mine
      (ascending_weaker _ _ (λ a b less. then_nothing _ ∙ int_order (n a) (n b) ∙ less) mine up))

-- ---- those of a room, where all are in the order of rooms and then of numbers

module _ {X : Type 0} (key : X → ℕ × ℕ) (room : ℕ) where
  abbrev is_in : X → Bool
  is_in e = eqb (key e).0 room

  numbers_rise : (a b : ℕ × ℕ) → eqb a.0 room ≡ true → eqb b.0 room ≡ true → pair_cmp a b ≡ Less
      → nat_cmp a.1 b.1 ≡ Less
  numbers_rise a b p q less =
      let same : nat_cmp a.0 b.0 ≡ Equal = grind (arith, nat_tests, p, q) in
      subst (λ o. ordering_then o (nat_cmp a.1 b.1) ≡ Less) same less

  above : (e : X) (es : List X) → is_in e ≡ true → AllByRecursion (λ y. pair_cmp (key e) (key y) ≡ Less) es
      → AllByRecursion (λ y. nat_cmp (key e).1 (key y).1 ≡ Less) (filter is_in es)
  above e [] is up = tt
  above e (x ∷ xs) is up = elim (cases_Bool (is_in x)) [
    | inl at ↦ rw at (numbers_rise (key e) (key x) is at up.0, above e xs is up.1)
    | inr other ↦ rw other (above e xs is up.1)
  ]

  pub room_rises : (es : List X) → IsAscending (λ a b. pair_cmp (key a) (key b) ≡ Less) es
      → IsAscending (λ a b. nat_cmp (key a).1 (key b).1 ≡ Less) (filter is_in es)
  room_rises [] up = tt
  room_rises (e ∷ es) up = elim (cases_Bool (is_in e)) [
    | inl is ↦ rw is (above e es is up.0, room_rises es up.1)
    | inr other ↦ rw other (room_rises es up.1)
  ]

-- ---- what the books write of each entry reads as its value

module _ {K V : Type 0} (cmp : K → K → Ordering) (total : IsTotalOrder cmp) (columns : Row → Row) (of : Row → K × V)
    (written : K × V → Row) (read : Row → V) (says : (v : Row) → read v ≡ (of v).1) (rows : List Row)
    (was : IsTable (by_key cmp) columns of written rows) where
  abbrev es : List (K × V)
  es = in_key_order (by_key cmp) (λ r. of (columns r)) rows

  pub reads_back : AllByRecursion (λ (e : K × V). read (written e) ≡ e.1) es
  reads_back =
      all_listed (by_key cmp) (key_total total) (IsWrittenAs columns of written) (λ r. of (columns r))
      (λ (e : K × V). read (written e) ≡ e.1) rows
      (all_map (λ (e : K × V). read (written e) ≡ e.1) (λ r. of (columns r)) rows
      (all_weaker _ _ (λ r good. ap read (sym good) ∙ says (columns r)) rows was.good))

  pub values_read : (q : K × V → Bool) → map read (map written (filter q es)) ≡ map (λ e. e.1) (filter q es)
  values_read q =
      map-map read written (filter q es)
      ∙ map_all (λ e. read (written e)) (λ e. e.1) (filter q es) (all-filter _ q es reads_back)
