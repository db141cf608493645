-- What a look-up finds in a table, whatever the order of its tree.
use Rattle.std.proofs.Common.{◌≡◌, ◌+◌, not, inl, inr, refl, sym, ap, ap₂, subst, ◌∙◌, List, [], ◌∷◌, length, ℕ, true}
use Rattle.std.proofs.Common.{false, Bool, None, Some, Option, map, filter, arith, Less, Equal, Greater, Ordering}
use Rattle.std.proofs.Common.{eqb, is_eq, true≢false}
use Rattle.std.proofs.Math.Bool.{not-not}
use Rattle.std.specs.List.{AllByRecursion, list_any}
use Rattle.std.specs.Option.{option_to_list}
use Rattle.std.specs.Prelude.{is_some}
use Rattle.std.specs.Map.{lookup}
use Rattle.std.specs.BTreeMap.{is_at}
use Rattle.std.specs.List.Sorted.{IsPermutation}
use Rattle.std.specs.Cmp.{IsTotalOrder}
use Rattle.std.proofs.lemmas.Bool.{cases_Bool}
use Rattle.std.proofs.lemmas.Bool.Decides.{nat_tests}
use Rattle.std.proofs.lemmas.List.{length-map}
use Rattle.std.proofs.lemmas.List.Sorted.{length_permutation, IsPermutation-map, IsPermutation-sym, IsPermutation-trans}
use Rattle.sqlite_keyed.proofs.ListLemmas.{map-map, all_weaker, all-filter, IsPermutation-filter, filter_none}
use Rattle.sqlite_keyed.proofs.ListLemmas.{none_counted}
use Rattle.sqlite_keyed.proofs.SortLemmas.{IsPermutation-sort_by}
use Rattle.sqlite_value.specs.declared.keys.Key.{Key}
use Rattle.sqlite.specs.Order.{Row}
use Rattle.sqlite.specs.Query.{Query, IsAnswer}
use Rattle.sqlite.specs.Program.{overlay}
use Rattle.sqlite.specs.Term.{Term, eval_all}
use Rattle.sqlite.specs.Tree.{Trees, IsAscending}
use Rattle.sqlite.proofs.Callers.{one_permutation}
use Rattle.hotel_statements.specs.Tables.{IsTableOf, in_key_order, by_key}
use Rattle.hotel_statements.specs.LookUps.{AnswersFirst}
use Rattle.hotel_statements.proofs.Answers.{single, env, passes, made_of_shown}
use Rattle.hotel_statements.proofs.Perm.{filter_mapped}

-- two functions that agree on each element
pub map_all : {A B : Type 0} (f g : A → B) (xs : List A) → AllByRecursion (λ x. f x ≡ g x) xs → map f xs ≡ map g xs
map_all f g [] all = refl
map_all f g (x ∷ xs) all = ap₂ (λ y ys. y ∷ ys) all.0 (map_all f g xs all.1)

module _ {X : Type 0} (cmp : X → X → Ordering) (total : IsTotalOrder cmp) (Good : Row → Type 0) (of : Row → X) where
  -- the rows that pass a test are those of the sorted list
  pub kept_rows : (p : Row → Bool) (q : X → Bool) (rows : List Row)
      → IsTableOf cmp Good of rows → ((r : Row) → Good r → p r ≡ q (of r))
      → IsPermutation (map of (filter p rows)) (filter q (in_key_order cmp of rows))
  kept_rows p q rows was test =
      let all = all_weaker Good (λ r. p r ≡ q (of r)) test rows was.good in
      subst (λ xs. IsPermutation xs (filter q (in_key_order cmp of rows)))
      (sym (filter_mapped cmp total Good of p q rows all))
      (IsPermutation-filter q _ _ (IsPermutation-sym _ _ (IsPermutation-sort_by cmp total (map of rows))))

  -- so is what is made of them
  pub made_rows : {Y : Type 0} (p : Row → Bool) (q : X → Bool) (f : Row → Y) (g : X → Y) (rows : List Row)
      → IsTableOf cmp Good of rows → ((r : Row) → Good r → p r ≡ q (of r)) → ((r : Row) → Good r → f r ≡ g (of r))
      → IsPermutation (map f (filter p rows)) (map g (filter q (in_key_order cmp of rows)))
  made_rows p q f g rows was tests shows =
      let good = all_weaker Good (λ r. f r ≡ g (of r)) shows _ (all-filter Good p rows was.good) in
      subst (λ xs. IsPermutation xs (map g (filter q (in_key_order cmp of rows))))
      (map-map g of (filter p rows) ∙ sym (map_all f (λ r. g (of r)) (filter p rows) good))
      (IsPermutation-map g _ _ (kept_rows p q rows was tests))

  -- what a query of one table answers
  pub found_rows : {A : Type 0} (tree : ℕ) (test project : List Term) (order : List (Term × Key)) (params : Row)
      (q : X → Bool) (out : Row → A) (value : X → A) (db : Trees)
      (rows : List Row)
      → IsTableOf cmp Good of (db tree) → ((r : Row) → Good r → passes test params r ≡ q (of r))
      → ((r : Row) → out (eval_all project (env params r)) ≡ value (of r))
      → IsAnswer (single tree test project order) (overlay db []) params rows
      → IsPermutation (map out rows) (map value (filter q (in_key_order cmp of (db tree))))
  found_rows tree test project order params q out value db rows was tests shows a =
      IsPermutation-trans _ _ _ (IsPermutation-sym _ _ (made_of_shown tree test project order db params rows out a))
      (made_rows (passes test params) q (λ r. out (eval_all project (env params r))) value (db tree) was tests
      (λ r _. shows r))

-- ---- the first row of an answer

none_left : {A : Type 0} (w : Option A) → IsPermutation [] (option_to_list w) → None ≡ w
none_left None same = refl
none_left (Some a) same = absurd (omega (arith, length_permutation _ _ same))

one_left : {A : Type 0} (a : A) (more : List A) (w : Option A)
    → IsPermutation (a ∷ more) (option_to_list w) → Some a ≡ w
one_left a more None same = absurd (omega (arith, length_permutation _ _ same))
one_left a more (Some b) same = let e = one_permutation b (a ∷ more) (IsPermutation-sym _ _ same) in cc

pub first_found : {A : Type 0} (out : Row → A) (q : Query) (params : Row) (db : Trees) (w : Option A)
    → ((rows : List Row) → IsAnswer q (overlay db []) params rows → IsPermutation (map out rows) (option_to_list w))
    → (o : Option A) → AnswersFirst out q params db o → o ≡ w
first_found out q params db w all None a = none_left w (all [] a)
first_found out q params db w all (Some x) a = ap Some a.3 ∙ one_left (out a.0) (map out a.1) w (all (a.0 ∷ a.1) a.2)

-- there is one where the statement finds one
pub some_found : {A X : Type 0} (out : Row → A) (value : X → A) (query : Query) (params : Row)
    (db : Trees) (q : X → Bool) (xs : List X)
    → ((rows : List Row) → IsAnswer query (overlay db []) params rows
    → IsPermutation (map out rows) (map value (filter q xs)))
    → (o : Option A) → AnswersFirst out query params db o → is_some o ≡ list_any q xs
some_found {A} out value query params db q xs all o a =
    go o a ∙ ap not (none_counted q xs) ∙ not-not (list_any q xs)
  where
    many : (rows : List Row) → IsAnswer query (overlay db []) params rows → length (filter q xs) ≡ length (map out rows)
    many rows answer = sym (length-map (filter q xs) value) ∙ length_permutation _ _ (all rows answer)

    go : (o : Option A) → AnswersFirst out query params db o → is_some o ≡ not (eqb (length (filter q xs)) 0)
    go None answer =
        let none : eqb (length (filter q xs)) 0 ≡ true = grind (arith, nat_tests, many [] answer) in
        ap not (sym none)
    go (Some x) answer =
        let long : length (filter q xs) ≡ length (map out answer.1) + 1 = omega (arith, many _ answer.2) in
        let some : eqb (length (filter q xs)) 0 ≡ false = grind (arith, nat_tests, long) in
        ap not (sym some)

-- ---- one entry by its key

equal_of : (o : Ordering) → is_eq o ≡ true → o ≡ Equal
equal_of Less is = absurd (true≢false (sym is))
equal_of Equal is = refl
equal_of Greater is = absurd (true≢false (sym is))

module _ {K V : Type 0} (cmp : K → K → Ordering) (total : IsTotalOrder cmp) where
  differs : (k : K) (e x : K × V) → is_eq (cmp k e.0) ≡ true → by_key cmp e x ≡ Less → is_eq (cmp k x.0) ≡ false
  differs k e x is less = ap is_eq (total.congr k e.0 x.0 (equal_of _ is) ∙ less)

  pub one_entry : (k : K) (es : List (K × V)) → IsAscending (λ a b. by_key cmp a b ≡ Less) es
      → map (λ (e : K × V). e.1) (filter (λ (e : K × V). is_at (cmp k) e.0) es)
      ≡ option_to_list (lookup (is_at (cmp k)) es)
  one_entry k [] up = refl
  one_entry k (e ∷ es) up = elim (cases_Bool (is_eq (cmp k e.0))) [
    | inl is ↦
        let none = filter_none (λ (x : K × V). is_at (cmp k) x.0) es
        (all_weaker _ (λ (x : K × V). is_eq (cmp k x.0) ≡ false) (λ x. differs k e x is) es up.0) in
        rw is (ap (λ xs. e.1 ∷ map (λ (x : K × V). x.1) xs) none)
    | inr other ↦ rw other (one_entry k es up.1)
  ]
