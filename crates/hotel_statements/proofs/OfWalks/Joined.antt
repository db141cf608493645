-- What a query over several tables answers.
use Rattle.std.proofs.Common.{if◌then◌else◌, ◌≡◌, ◌∙◌, refl, sym, ap, subst, List, [], ◌∷◌, ◌++◌, ℕ, Bool, true, false}
use Rattle.std.proofs.Common.{Option, Some, None, map, filter, flat_map, inl, inr, Less, Ordering}
use Rattle.std.specs.Prelude.{filter_map, option_map}
use Rattle.std.specs.List.{AllByRecursion, list_all, cons_option}
use Rattle.std.specs.Option.{option_to_list}
use Rattle.std.specs.Map.{values_of}
use Rattle.std.specs.List.Sorted.{IsPermutation}
use Rattle.std.specs.Cmp.{IsTotalOrder}
use Rattle.std.proofs.lemmas.Bool.{cases_Bool}
use Rattle.std.proofs.lemmas.List.Sorted.{IsPermutation-refl, IsPermutation-sym, IsPermutation-trans}
use Rattle.std.proofs.lemmas.List.Sorted.{IsPermutation-append}
use Rattle.sqlite_sql.proofs.QueryLemmas.{output_cmp_total}
use Rattle.sqlite_keyed.proofs.ListLemmas.{map-flat_map, IsPermutation-flat_map, IsPermutation-same}
use Rattle.sqlite_keyed.proofs.SortLemmas.{sorted_unique, IsPermutation-sort_by}
use Rattle.sqlite_value.specs.declared.keys.Key.{Key}
use Rattle.sqlite.specs.Order.{Row}
use Rattle.sqlite.specs.Query.{Query, Join, inner, left, end, or_nulls, IsAnswer, Output, output, output_cmp, matches}
use Rattle.sqlite.specs.Program.{overlay}
use Rattle.sqlite.specs.Term.{Term, Env, holds}
use Rattle.sqlite.specs.Tree.{Trees, IsAscending}
use Rattle.hotel_statements.specs.Tables.{in_key_order}
use Rattle.hotel_statements.proofs.Answers.{same_tree, single}

abbrev pub over : Join → List Term → List Term → List (Term × Key) → Query
over from test project order = record (single 0 test project order) { from = from }

-- the rows of an answer, where the matches show these in some order, and they rise
pub sorted_answer : (from : Join) (test project : List Term) (order : List (Term × Key)) (db : Trees) (params : Row)
    (rows : List Row) (outs : List Output)
    → IsAnswer (over from test project order) db params rows
    → IsPermutation (map (output (over from test project order)) (matches db test from (params ∷ []))) outs
    → IsAscending (λ a b. output_cmp (over from test project order) a b ≡ Less) outs
    → rows ≡ map (λ (o : Output). o.1) outs
sorted_answer from test project order db params rows outs a same up =
    let q = over from test project order in
    let kept : a.kept ≡ map (output q) (matches db test from (params ∷ [])) =
    a.distinct ∙ ap (map (output q)) a.grouped in
    let all : IsPermutation outs a.ordered =
    IsPermutation-trans _ _ _ (IsPermutation-sym _ _ same) (subst (λ k. IsPermutation k a.ordered) kept a.same) in
    a.shown
    ∙ ap (map (λ (o : Output). o.1)) (sorted_unique (output_cmp q) (output_cmp_total q) outs a.ordered up all a.sorted)

-- ---- row by row

each_row : {X B : Type 0} (Good : Row → Type 0) (of : Row → X) (f : Row → List B) (h : X → List B)
    → ((r : Row) → Good r → IsPermutation (f r) (h (of r))) → (rows : List Row)
    → AllByRecursion Good rows → IsPermutation (flat_map f rows) (flat_map h (map of rows))
each_row Good of f h each [] good = IsPermutation-refl []
each_row Good of f h each (r ∷ rows) good =
    IsPermutation-append _ _ _ _ (each r good.0) (each_row Good of f h each rows good.1)

module _ (db : Trees) (test : List Term) (q : Query) where
  -- each match of one more table
  pub one_more_table : {X : Type 0} (cmp : X → X → Ordering) → IsTotalOrder cmp
      → (Good : Row → Type 0) (of : Row → X) (tree : ℕ) (more : Join) (env : Env) (h : X → List Output)
      → AllByRecursion Good (db tree)
      → ((r : Row) → Good r
      → IsPermutation (map (output q) (matches (overlay db []) test more (env ++ r ∷ []))) (h (of r)))
      → IsPermutation (map (output q)
      (matches (overlay db []) test (inner tree more) env)) (flat_map h (in_key_order cmp of (db tree)))
  one_more_table cmp total Good of tree more env h good each =
      let f : Row → List Output = λ r. map (output q) (matches (overlay db []) test more (env ++ r ∷ [])) in
      let split : map (output q) (matches (overlay db []) test (inner tree more) env) ≡ flat_map f (db tree) =
      map-flat_map (output q) (λ r. matches (overlay db []) test more (env ++ r ∷ [])) (overlay db [] tree)
      ∙ ap (flat_map f) (same_tree db tree) in
      subst (λ os. IsPermutation os (flat_map h (in_key_order cmp of (db tree)))) (sym split)
      (IsPermutation-trans _ _ _ (each_row Good of f h each (db tree) good)
      (IsPermutation-flat_map h _ _ (IsPermutation-sym _ _ (IsPermutation-sort_by cmp total (map of (db tree))))))

  -- and of one that may have none: then its row is empty
  pub table_or_none : (on : List Term) (tree : ℕ) (more : Join) (env : Env)
      → map (output q) (matches (overlay db []) test (left tree on more) env)
      ≡ flat_map (λ r. map (output q) (matches (overlay db []) test more (env ++ r ∷ [])))
      (or_nulls (filter (λ r. list_all (holds (env ++ r ∷ [])) on) (db tree)))
  table_or_none on tree more env =
      let f : Row → List Output = λ r. map (output q) (matches (overlay db []) test more (env ++ r ∷ [])) in
      map-flat_map (output q) (λ r. matches (overlay db []) test more (env ++ r ∷ []))
      (or_nulls (filter (λ r. list_all (holds (env ++ r ∷ [])) on) (overlay db [] tree)))
      ∙ ap (λ rs. flat_map f (or_nulls (filter (λ r. list_all (holds (env ++ r ∷ [])) on) rs))) (same_tree db tree)

  -- and of the last
  pub last_table : (env : Env) (b : Bool) (o : Output) → list_all (holds env) test ≡ b → output q env ≡ o
      → IsPermutation (map (output q) (matches (overlay db []) test end env)) (if b then o ∷ [] else [])
  last_table env b o is shows = IsPermutation-same _ _ (ap (λ t. map (output q) (if t then env ∷ [] else [])) is ∙ go b)
    where
      go : (t : Bool) → map (output q) (if t then env ∷ [] else []) ≡ (if t then o ∷ [] else [])
      go true = ap (λ x. x ∷ []) shows
      go false = refl

-- ---- lists of what passes a test

pub where_it_passes : {X B : Type 0} (p : X → Bool) (f : X → List B) (xs : List X)
    → flat_map (λ x. if p x then f x else []) xs ≡ flat_map f (filter p xs)
where_it_passes p f [] = refl
where_it_passes p f (x ∷ xs) = elim (cases_Bool (p x)) [
  | inl is ↦ rw is (ap (λ ys. f x ++ ys) (where_it_passes p f xs))
  | inr other ↦ rw other (where_it_passes p f xs)
]

-- ---- lists of what is made of each, where something is

module _ {X Y : Type 0} (g : X → Option Y) where
  pub made_of_each : {B : Type 0} (f : Y → B) (xs : List X)
      → flat_map (λ x. map f (option_to_list (g x))) xs ≡ map f (filter_map g xs)
  made_of_each f [] = refl
  made_of_each f (x ∷ xs) = go (g x) (made_of_each f xs)
    where
      go : (o : Option Y) → flat_map (λ z. map f (option_to_list (g z))) xs ≡ map f (filter_map g xs)
          → map f (option_to_list o) ++ flat_map (λ z. map f (option_to_list (g z))) xs
          ≡ map f (cons_option o (filter_map g xs))
      go None more = more
      go (Some y) more = ap (λ ys. f y ∷ ys) more

  -- they stand in the order of those that they are made of
  module _ (R : X → X → Type 0) (back : Y → X) (keeps : (x : X) (y : Y) → g x ≡ Some y → back y ≡ x) where
    all_above : (z : X) (xs : List X) → AllByRecursion (R z) xs → AllByRecursion (λ y. R z (back y)) (filter_map g xs)
    all_above z [] above = tt
    all_above z (x ∷ xs) above = go (g x) refl (all_above z xs above.1)
      where
        go : (o : Option Y) → g x ≡ o → AllByRecursion (λ y. R z (back y)) (filter_map g xs)
            → AllByRecursion (λ y. R z (back y)) (cons_option o (filter_map g xs))
        go None e more = more
        go (Some y) e more = (subst (R z) (sym (keeps x y e)) above.0, more)

    pub rise_alike : (xs : List X) → IsAscending R xs → IsAscending (λ a b. R (back a) (back b)) (filter_map g xs)
    rise_alike [] up = tt
    rise_alike (x ∷ xs) up = go (g x) refl (rise_alike xs up.1)
      where
        go : (o : Option Y) → g x ≡ o → IsAscending (λ a b. R (back a) (back b)) (filter_map g xs)
            → IsAscending (λ a b. R (back a) (back b)) (cons_option o (filter_map g xs))
        go None e more = more
        go (Some y) e more = (
          subst (λ z. AllByRecursion (λ b. R z (back b)) (filter_map g xs)) (sym (keeps x y e)) (all_above x xs up.0),
          more,
        )

-- what is said of them, and of the values
pub said_of_each : {K V Y Z : Type 0} (g : K × V → Option Y) (f : Y → Z) (k : V → Option Z) (es : List (K × V))
    → AllByRecursion (λ (e : K × V). option_map f (g e) ≡ k e.1) es
    → map f (filter_map g es) ≡ filter_map k (values_of es)
said_of_each g f k [] all = refl
said_of_each g f k (e ∷ es) all = go (g e) (all.0) (said_of_each g f k es all.1)
  where
    go : (o : Option _) → option_map f o ≡ k e.1 → map f (filter_map g es) ≡ filter_map k (values_of es)
        → map f (cons_option o (filter_map g es)) ≡ cons_option (k e.1) (filter_map k (values_of es))
    go None is more = more ∙ ap (λ w. cons_option w (filter_map k (values_of es))) is
    go (Some y) is more = ap (λ zs. f y ∷ zs) more ∙ ap (λ w. cons_option w (filter_map k (values_of es))) is

-- what is said of them, made in one step
pub made_alike : {X Y Z : Type 0} (g : X → Option Y) (f : Y → Z) (k : X → Option Z)
    → ((x : X) → option_map f (g x) ≡ k x) → (xs : List X) → map f (filter_map g xs) ≡ filter_map k xs
made_alike g f k same [] = refl
made_alike g f k same (x ∷ xs) = go (g x) (same x) (made_alike g f k same xs)
  where
    go : (o : Option _) → option_map f o ≡ k x → map f (filter_map g xs) ≡ filter_map k xs
        → map f (cons_option o (filter_map g xs)) ≡ cons_option (k x) (filter_map k xs)
    go None is more = more ∙ ap (λ w. cons_option w (filter_map k xs)) is
    go (Some y) is more = ap (λ zs. f y ∷ zs) more ∙ ap (λ w. cons_option w (filter_map k xs)) is
