-- Tables as sorted lists, whatever the order of their trees.
use Rattle.std.proofs.Common.{◌≡◌, ◌<◌, not, inl, inr, refl, sym, ap, ap₂, subst, ◌∙◌, List, [], ◌∷◌, ◌+◌, length, ℕ}
use Rattle.std.proofs.Common.{zero, suc, true, false, Bool, cond, map, filter, arith, Ordering, Less, Equal, Greater}
use Rattle.std.proofs.Common.{is_eq, is_lt, is_gt, true≢false, get_or, add-one}
use Rattle.std.specs.Ordering.{match_ordering, ordering_reverse}
use Rattle.std.specs.Cmp.{IsTotalOrder}
use Rattle.std.specs.List.{AllByRecursion}
use Rattle.std.specs.List.Sorted.{IsPermutation, IsSorted}
use Rattle.std.proofs.lemmas.Bool.{cases_Bool}
use Rattle.std.proofs.lemmas.List.Sorted.{IsPermutation-refl, IsPermutation-sym, IsPermutation-trans}
use Rattle.std.proofs.lemmas.List.Sorted.{IsPermutation-cons, IsPermutation-middle, IsPermutation-map, All-permutation}
use Rattle.std.proofs.lemmas.List.Sorted.{length_permutation}
use Rattle.sqlite_value.specs.Order.{Row, value_cmp}
use Rattle.sqlite_trees.specs.Tree.{IsAscending, rowid, put_row}
use Rattle.sqlite_rules.specs.Edit.{is_taken}
use Rattle.sqlite_keyed.specs.Lists.{insert_sorted, sort_by}
use Rattle.std.proofs.lemmas.List.Elements.{recursion_from_All, All-from_recursion}
use Rattle.sqlite_keyed.proofs.ListLemmas.{filter-map, all_weaker, all-filter, along_permutation, IsPermutation-filter}
use Rattle.sqlite_keyed.proofs.ListLemmas.{filter_all, ascending-filter}
use Rattle.hotel_statements.specs.Tables.{IsTableOf, in_key_order, AreApartIds}
use Rattle.sqlite_keyed.proofs.SortLemmas.{HasNoTies, sorted_is-sort_by, sorted_unique, IsPermutation-sort_by}

pub every_shuffled : {X : Type 0} (P : X → Type 0) (xs ys : List X)
    → IsPermutation xs ys → AllByRecursion P xs → AllByRecursion P ys
every_shuffled P xs ys same all = recursion_from_All P ys (All-permutation P xs ys same (All-from_recursion P xs all))

-- two tests that agree on each element
pub filter_alike : {X : Type 0} (p q : X → Bool) (xs : List X)
    → AllByRecursion (λ x. p x ≡ q x) xs → filter p xs ≡ filter q xs
filter_alike p q [] same = refl
filter_alike p q (x ∷ xs) same = ap₂ (λ b ys. cond b (x ∷ ys) ys) same.0 (filter_alike p q xs same.1)

pub none_permuted : {X : Type 0} (xs : List X) → IsPermutation [] xs → xs ≡ []
none_permuted [] same = refl
none_permuted (x ∷ xs) same = absurd (omega (arith, length_permutation _ _ same))

-- a row with a fresh rowid is put among the others, whatever their order
pub put_fresh : (new : Row) (rows : List Row)
    → is_taken rows new ≡ false → IsPermutation (put_row new rows) (new ∷ rows)
put_fresh new [] fresh = IsPermutation-refl _
put_fresh new (r ∷ rs) fresh = go (λ rest. put_fresh new rs rest) (value_cmp (rowid r) (rowid new)) refl
  where
    more : is_eq (value_cmp (rowid r) (rowid new)) ≡ false → is_taken rs new ≡ false
    more other = rw other at fresh

    go : (is_taken rs new ≡ false → IsPermutation (put_row new rs) (new ∷ rs)) → (o : Ordering)
        → value_cmp (rowid r) (rowid new) ≡ o
        → IsPermutation (match_ordering o (r ∷ put_row new rs) (new ∷ rs) (new ∷ r ∷ rs)) (new ∷ r ∷ rs)
    go rest Less e = IsPermutation-trans _ _ _ (IsPermutation-cons r _ _ (rest (more (ap is_eq e))))
        (IsPermutation-middle (r ∷ []) new rs)
    go rest Equal e = absurd (true≢false (let t = rw e at fresh in t))
    go rest Greater e = IsPermutation-refl _

module _ {X : Type 0} (cmp : X → X → Ordering) (total : IsTotalOrder cmp) where
  not_lt : (a b : X) → cmp a b ≡ Less → is_lt (cmp b a) ≡ false
  not_lt a b e = ap is_lt (total.antisymm b a ∙ ap ordering_reverse e)

  all_at : (P : X → Type 0) (xs : List X) (i : ℕ) (d : X) → i < length xs → AllByRecursion P xs → P (get_or xs i d)
  all_at P [] i d low all = absurd (omega arith)
  all_at P (x ∷ xs) zero d low all = all.0
  all_at P (x ∷ xs) (suc i) d low all = all_at P xs i d (omega arith) all.1

  pub sorted_rises : (xs : List X) → IsAscending (λ a b. cmp a b ≡ Less) xs → IsSorted cmp xs
  sorted_rises [] up = λ k d low high. absurd (omega arith)
  sorted_rises (x ∷ xs) up = λ k d low high. go (sorted_rises xs up.1) k d high
    where
      go : IsSorted cmp xs → (k : ℕ) (d : X)
          → k + 1 < length (x ∷ xs) → is_lt (cmp (get_or (x ∷ xs) (k + 1) d) (get_or (x ∷ xs) k d)) ≡ false
      go rest zero d high = not_lt x _ (all_at (λ b. cmp x b ≡ Less) xs 0 d (omega arith) up.0)
      go rest (suc k) d high = rw add-one (rw add-one at (rest k d (omega arith) (omega arith)))

  all_inserted : (P : X → Type 0) (new : X) (xs : List X)
      → P new → AllByRecursion P xs → AllByRecursion P (insert_sorted cmp new xs)
  all_inserted P new [] h all = (h, tt)
  all_inserted P new (x ∷ xs) h all = elim (cases_Bool (is_gt (cmp new x))) [
    | inl above ↦ rw above (all.0, all_inserted P new xs h all.1)
    | inr other ↦ rw other (h, all)
  ]

  all_sorted : (P : X → Type 0) (xs : List X) → AllByRecursion P xs → AllByRecursion P (sort_by cmp xs)
  all_sorted P [] all = tt
  all_sorted P (x ∷ xs) all = all_inserted P x _ all.0 (all_sorted P xs all.1)

  insert_rises : (new : X) (xs : List X) → AllByRecursion (λ y. is_eq (cmp new y) ≡ false) xs
      → IsAscending (λ a b. cmp a b ≡ Less) xs
      → IsAscending (λ a b. cmp a b ≡ Less) (insert_sorted cmp new xs)
  insert_rises new [] apart up = (tt, tt)
  insert_rises new (x ∷ xs) apart up = go (insert_rises new xs apart.1 up.1) (cmp new x) refl
    where
      go : IsAscending (λ a b. cmp a b ≡ Less) (insert_sorted cmp new xs) → (o : Ordering) → cmp new x ≡ o
          → IsAscending (λ a b. cmp a b ≡ Less) (cond (is_gt o) (x ∷ insert_sorted cmp new xs) (new ∷ x ∷ xs))
      go more Less e = ((e, all_weaker _ (λ y. cmp new y ≡ Less) (λ y below. total.trans new x y e below) xs up.0), up)
      go more Equal e = absurd (true≢false (sym (ap is_eq e) ∙ apart.0))
      go more Greater e = (all_inserted _ new xs (total.antisymm x new ∙ ap ordering_reverse e) up.0, more)

  pub sort_rises : (xs : List X) → HasNoTies cmp total xs → IsAscending (λ a b. cmp a b ≡ Less) (sort_by cmp xs)
  sort_rises [] apart = tt
  sort_rises (x ∷ xs) apart = insert_rises x _ (all_sorted _ xs apart.0) (sort_rises xs apart.1)

  turned_eq : (o : Ordering) → is_eq (ordering_reverse o) ≡ is_eq o
  turned_eq Less = refl
  turned_eq Equal = refl
  turned_eq Greater = refl

  pub same_tie : (a b : X) → is_eq (cmp a b) ≡ is_eq (cmp b a)
  same_tie a b = ap is_eq (total.antisymm a b) ∙ turned_eq (cmp b a)

  abbrev Moves : List X → List X → Type 0
  Moves xs ys = IsPermutation xs ys × (HasNoTies cmp total xs → HasNoTies cmp total ys)

  -- that no two are tied does not depend on the order
  pub apart_permuted : (xs ys : List X) → IsPermutation xs ys → HasNoTies cmp total xs → HasNoTies cmp total ys
  apart_permuted xs ys same =
      let all : Moves xs ys = along_permutation Moves
      (λ zs. (IsPermutation-refl zs, λ h. h))
      (λ z a b h. (
        IsPermutation-cons z a b h.0,
        λ apart. (every_shuffled (λ y. is_eq (cmp z y) ≡ false) a b h.0 apart.0, h.1 apart.1),
      ))
      (λ x y zs.
      (IsPermutation-middle (x ∷ []) y zs, λ apart. ((same_tie y x ∙ apart.0.0, apart.1.0), (apart.0.1, apart.1.1))))
      (λ a b c p q. (IsPermutation-trans a b c p.0 q.0, λ apart. q.1 (p.1 apart))) xs ys same in
      all.1

  -- the sorted list does not either
  pub sort_permuted : (xs ys : List X) → HasNoTies cmp total xs → IsPermutation xs ys → sort_by cmp ys ≡ sort_by cmp xs
  sort_permuted xs ys apart same =
      sorted_is-sort_by cmp total xs (sort_by cmp ys) apart
      (IsPermutation-trans _ _ _ same (IsPermutation-sym _ _ (IsPermutation-sort_by cmp total ys)))
      (sorted_rises _ (sort_rises ys (apart_permuted xs ys same apart)))

  pub sort_filtered : (q : X → Bool) (xs : List X) → HasNoTies cmp total xs → HasNoTies cmp total (filter q xs)
      → sort_by cmp (filter q xs) ≡ filter q (sort_by cmp xs)
  sort_filtered q xs apart left =
      sym (sorted_unique cmp total (sort_by cmp (filter q xs)) (filter q (sort_by cmp xs)) (sort_rises _ left)
      (IsPermutation-trans _ _ _ (IsPermutation-sort_by cmp total (filter q xs))
      (IsPermutation-filter q _ _ (IsPermutation-sym _ _ (IsPermutation-sort_by cmp total xs))))
      (sorted_rises _ (ascending-filter _ q _ (sort_rises xs apart))))

  module _ (Good : Row → Type 0) (of : Row → X) where
    pub put_makes : (new : Row) (rows : List Row) → IsTableOf cmp Good of rows → Good new → is_taken rows new ≡ false
        → AllByRecursion (λ y. is_eq (cmp (of new) y) ≡ false) (map of rows)
        → IsTableOf cmp Good of (put_row new rows)
        × (in_key_order cmp of (put_row new rows) ≡ insert_sorted cmp (of new) (in_key_order cmp of rows))
    put_makes new rows was fits fresh new_key =
        let moved = IsPermutation-sym _ _ (put_fresh new rows fresh) in
        let mapped : IsPermutation (of new ∷ map of rows) (map of (put_row new rows)) =
        IsPermutation-map of _ _ moved in
        let apart : HasNoTies cmp total (of new ∷ map of rows) = (new_key, was.apart) in (
          record {
            good = every_shuffled Good (new ∷ rows) (put_row new rows) moved (fits, was.good);
            apart = apart_permuted _ _ mapped apart;
          },
          sort_permuted _ _ apart mapped,
        )

    pub filter_mapped : (p : Row → Bool) (q : X → Bool) (rows : List Row)
        → AllByRecursion (λ r. p r ≡ q (of r)) rows → map of (filter p rows) ≡ filter q (map of rows)
    filter_mapped p q rows all =
        ap (map of) (filter_alike p (λ r. q (of r)) rows all) ∙ sym (filter-map q of rows)

    pub filter_makes : (p : Row → Bool) (q : X → Bool) (rows : List Row)
        → IsTableOf cmp Good of rows → AllByRecursion (λ r. p r ≡ q (of r)) rows
        → IsTableOf cmp Good of (filter p rows)
        × (in_key_order cmp of (filter p rows) ≡ filter q (in_key_order cmp of rows))
    filter_makes p q rows was all =
        let same = filter_mapped p q rows all in
        let left : HasNoTies cmp total (filter q (map of rows)) = ascending-filter _ q _ was.apart in (
          record { good = all-filter Good p rows was.good; apart = subst (HasNoTies cmp total) (sym same) left },
          ap (sort_by cmp) same
              ∙ sort_filtered q (map of rows) was.apart left,
        )

-- ---- those that pass a test

pub found_of : {A : Type 0} (P : A → Type 0) (p : A → Bool) (xs : List A) (x : A)
    → AllByRecursion P xs → filter p xs ≡ x ∷ [] → P x
found_of P p xs x all is = (subst (AllByRecursion P) is (all-filter P p xs all)).0

-- where none passes, none is left out
pub all_left : {A : Type 0} (p : A → Bool) (xs : List A)
    → AllByRecursion (λ x. p x ≡ false) xs → filter (λ x. not (p x)) xs ≡ xs
all_left p xs none = filter_all _ xs (all_weaker _ (λ x. not (p x) ≡ true) (λ x other. ap not other) xs none)

pub apart_filtered : (p : Row → Bool) (rows : List Row) → AreApartIds rows → AreApartIds (filter p rows)
apart_filtered p rows apart = ascending-filter _ p rows apart
