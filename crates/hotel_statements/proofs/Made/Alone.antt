-- A row that was put has its pair of numbers alone: the index of the pairs is unique.
use Rattle.std.proofs.Common.{◌≡◌, refl, sym, subst, ◌∙◌, List, [], ◌∷◌, ℕ, ℤ, map, true, false, Bool, not, ◌&&◌}
use Rattle.std.proofs.Common.{Ordering, Less, Equal, Greater, is_eq}
use Rattle.std.specs.Cmp.{IsTotalOrder}
use Rattle.std.specs.Ordering.{is_ne}
use Rattle.std.specs.List.{AllByRecursion}
use Rattle.std.proofs.lemmas.List.Sorted.{IsPermutation-sym}
use Rattle.sqlite.specs.Order.{Row, value_cmp}
use Rattle.sqlite.specs.Tree.{Trees, put_row}
use Rattle.sqlite.specs.Ops.{binary}
use Rattle.sqlite_trees.specs.Tree.{rowid}
use Rattle.sqlite_rules.specs.Edit.{is_taken}
use Rattle.sqlite_schema.specs.Rules.{Fits, passes, differ, clashes}
use Rattle.sqlite_schema.specs.declared.schema.Constraint.TheVariants.{Unique}
use Rattle.sqlite_schema.specs.declared.schema.Table.{Table}
use Rattle.sqlite_value.specs.Keys.{plain, first_key}
use Rattle.sqlite_value.specs.declared.value.Value.TheVariants.{Int}
use Rattle.sqlite_keyed.proofs.SortLemmas.{IsPermutation-sort_by}
use Rattle.sqlite_keyed.proofs.ListLemmas.{none_from_any, all_both, all_map}
use Rattle.hotel_model.specs.Words.{pair_cmp}
use Rattle.hotel_statements.specs.Trees.{inside_tree, fit_tree}
use Rattle.hotel_statements.specs.Tables.{HasId, in_key_order}
use Rattle.hotel_statements.specs.Schema.{desk_schema, inside_table, fit_table, at_tree}
use Rattle.hotel_statements.specs.Values.{int}
use Rattle.hotel_statements.proofs.Keys.{truly}
use Rattle.hotel_statements.proofs.Made.Deletes.{test}
use Rattle.hotel_statements.proofs.Perm.{put_fresh, every_shuffled}

-- ---- what the rule of the index says of the new row

-- what holds of each row holds of it
of_put : (P : Row → Type 0) (row : Row) (rows after : List Row) → is_taken rows row ≡ false → after ≡ put_row row rows
    → AllByRecursion P after → P row
of_put P row rows after fresh is all =
    (every_shuffled P (put_row row rows) (row ∷ rows) (put_fresh row rows fresh) (subst (AllByRecursion P) is all)).0

abbrev Passes : Trees → Table → Row → Type 0
Passes next t r = passes Unique desk_schema next t r ≡ true

not_true : (a others : Bool) → (not a && others) ≡ true → a ≡ false
not_true true others h = sym h
not_true false others h = refl

pub inside_free : (next : Trees) (row : Row) (rows : List Row) → Fits desk_schema next
    → next inside_tree ≡ put_row row rows → is_taken rows row ≡ false
    → clashes plain (1 ∷ 2 ∷ []) (next inside_tree) row ≡ false
inside_free next row rows fits is fresh =
    let kept = fits.rules Unique (λ no. let e = no in cc) in
    not_true (clashes plain (1 ∷ 2 ∷ []) (next inside_tree) row) true
    (of_put (Passes next (at_tree inside_tree inside_table)) row rows (next inside_tree) fresh is kept.1.1.1.1.1.1.0)

pub fit_free : (next : Trees) (row : Row) (rows : List Row) → Fits desk_schema next
    → next fit_tree ≡ put_row row rows → is_taken rows row ≡ false
    → clashes plain (1 ∷ 2 ∷ []) (next fit_tree) row ≡ false
fit_free next row rows fits is fresh =
    let kept = fits.rules Unique (λ no. let e = no in cc) in
    not_true (clashes plain (1 ∷ 2 ∷ []) (next fit_tree) row)
    (not (clashes plain (1 ∷ 3 ∷ []) (next fit_tree) row) && true)
    (of_put (Passes next (at_tree fit_tree fit_table)) row rows (next fit_tree) fresh is kept.1.1.1.1.1.1.1.1.0)

-- ---- so no row before it has its pair

unequal : (o : Ordering) → is_eq o ≡ false → is_ne o ≡ true
unequal Less h = refl
unequal Equal h = sym h
unequal Greater h = refl

differs : (a b : ℤ) → is_eq (value_cmp (Int a) (Int b)) ≡ false → differ (Int a) (Int b) ≡ true
unfolding binary
differs a b h = truly _ ∙ unequal _ h

lone : (b d : Bool) → (b && d) ≡ false → d ≡ true → b ≡ false
lone true d h is = sym is ∙ h
lone false d h is = refl

module _ (a b : ℕ) (id : ℤ) (more : Row) (rows after : List Row) where
  abbrev row : Row
  row = Int id ∷ int a ∷ int b ∷ more

  none_agrees : clashes plain (1 ∷ 2 ∷ []) after row ≡ false → is_taken rows row ≡ false → after ≡ put_row row rows
      → AllByRecursion (λ other. (test a b other && differ (rowid other) (rowid row)) ≡ false) rows
  unfolding first_key
  none_agrees free fresh is =
      let P : Row → Type 0 = λ other. (test a b other && differ (rowid other) (rowid row)) ≡ false in
      let all : AllByRecursion P after =
      none_from_any (λ other. test a b other && differ (rowid other) (rowid row)) after free in
      (every_shuffled P (put_row row rows) (row ∷ rows) (put_fresh row rows fresh) (subst (AllByRecursion P) is all)).1

  lonely : clashes plain (1 ∷ 2 ∷ []) after row ≡ false → is_taken rows row ≡ false → after ≡ put_row row rows
      → AllByRecursion HasId rows → AllByRecursion (λ r. test a b r ≡ false) rows
  lonely free fresh is ids =
      let others = none_from_any (λ r. is_eq (value_cmp (rowid r) (rowid row))) rows fresh in
      let apart =
      all_both HasId _ (λ r. differ (rowid r) (rowid row) ≡ true) (λ r has other. subst (λ v. differ v (Int id) ≡ true)
      (sym has) (differs _ id (subst (λ v. is_eq (value_cmp v (Int id)) ≡ false) has other))) rows ids others in
      all_both _ (λ r. differ (rowid r) (rowid row) ≡ true) (λ r. test a b r ≡ false)
      (λ r no d. lone (test a b r) _ no d) rows (none_agrees free fresh is) apart

  -- and no entry
  pub alone : {X : Type 0} (cmp : X → X → Ordering) → IsTotalOrder cmp → (Good : Row → Type 0) (read : Row → X)
      (key : X → ℕ × ℕ) → ((r : Row) → Good r → test a b r ≡ is_eq (pair_cmp (a, b) (key (read r))))
      → AllByRecursion Good rows → AllByRecursion HasId rows → clashes plain (1 ∷ 2 ∷ []) after row ≡ false
      → is_taken rows row ≡ false → after ≡ put_row row rows
      → AllByRecursion (λ e. is_eq (pair_cmp (a, b) (key e)) ≡ false) (in_key_order cmp read rows)
  alone cmp total Good read key tested good ids free fresh is =
      let out = all_both Good (λ r. test a b r ≡ false) (λ r. is_eq (pair_cmp (a, b) (key (read r))) ≡ false)
      (λ r g no. sym (tested r g) ∙ no) rows good (lonely free fresh is ids) in
      every_shuffled (λ e. is_eq (pair_cmp (a, b) (key e)) ≡ false) _ _
      (IsPermutation-sym _ _ (IsPermutation-sort_by cmp total (map read rows)))
      (all_map (λ e. is_eq (pair_cmp (a, b) (key e)) ≡ false) read rows out)
