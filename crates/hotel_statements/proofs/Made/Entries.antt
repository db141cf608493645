-- A row that is added to a table, and a row that is changed in its place.
use Rattle.std.proofs.Common.{if◌then◌else◌, ◌==◌, ◌≡◌, ◌⊎◌, ◌<◌, not, inl, inr, refl, sym, ap, ap₂, subst, ◌∙◌, List}
use Rattle.std.proofs.Common.{[], ◌∷◌, ℕ, pos, true, false, Bool, map, filter, arith, eqb, Ordering, Less, Equal}
use Rattle.std.proofs.Common.{Greater, nat_cmp, is_eq, is_gt, true≢false}
use Rattle.std.specs.Ordering.{match_ordering}
use Rattle.std.specs.Cmp.{IsTotalOrder}
use Rattle.std.specs.List.{AllByRecursion}
use Rattle.std.specs.BTreeMap.{insert_entry}
use Rattle.std.specs.BTreeSet.{insert_key}
use Rattle.std.proofs.lemmas.Bool.{cases_Bool}
use Rattle.std.proofs.lemmas.Bool.Decides.{nat_tests}
use Rattle.std.proofs.lemmas.Cmp.{nat_cmp_total}
use Rattle.std.specs.List.Sorted.{IsPermutation}
use Rattle.std.proofs.lemmas.List.Sorted.{IsPermutation-sym}
use Rattle.sqlite.proofs.Callers.{one_permutation}
use Rattle.sqlite_value.specs.Order.{Row, column, value_cmp}
use Rattle.sqlite_trees.specs.Tree.{IsAscending, rowid, put_row, without_rowid, has_rowid}
use Rattle.sqlite_rules.specs.Edit.{is_taken}
use Rattle.sqlite_keyed.specs.Lists.{insert_sorted}
use Rattle.sqlite_keyed.proofs.ListLemmas.{all_weaker, all_both, all_map, none_from_any, any_from_none}
use Rattle.sqlite_keyed.proofs.ListLemmas.{ascending_weaker, IsPermutation-filter}
use Rattle.sqlite_keyed.proofs.SortLemmas.{IsPermutation-sort_by}
use Rattle.hotel_statements.specs.Values.{int}
use Rattle.hotel_statements.specs.Tables.{IsTableOf, IsTable, IsWrittenAs, in_key_order, by_key}
use Rattle.hotel_statements.proofs.Keyed.{key_total}
use Rattle.hotel_statements.proofs.Keys.{same_number, is_key}
use Rattle.hotel_statements.proofs.Perm.{all_left, found_of, none_permuted, every_shuffled, put_makes, filter_makes}
use Rattle.hotel_statements.proofs.Perm.{filter_mapped, sort_rises}

-- ---- the two ways to put an entry into a list without its key

by_order : {A : Type 0} (o : Ordering) (e : A) (before at after more : List A) → is_eq o ≡ false → after ≡ more
    → (if is_gt o then e ∷ after else before) ≡ match_ordering o before at (e ∷ more)
by_order Less e before at after more apart same = refl
by_order Equal e before at after more apart same = absurd (true≢false apart)
by_order Greater e before at after more apart same = ap (λ rest. e ∷ rest) same

pub entry_put : {K V : Type 0} (cmp : K → K → Ordering) (k : K) (v : V) (es : List (K × V))
    → AllByRecursion (λ e. is_eq (cmp k e.0) ≡ false) es
    → insert_sorted (by_key cmp) (k, v) es ≡ insert_entry cmp es k v
entry_put cmp k v [] apart = refl
entry_put cmp k v (e ∷ es) apart = by_order (cmp k e.0) e _ _ _ _ apart.0 (entry_put cmp k v es apart.1)

pub key_put : {K : Type 0} (cmp : K → K → Ordering) (k : K) (ks : List K)
    → AllByRecursion (λ x. is_eq (cmp k x) ≡ false) ks → insert_sorted cmp k ks ≡ insert_key cmp ks k
key_put cmp k [] apart = refl
key_put cmp k (x ∷ ks) apart = by_order (cmp k x) x _ _ _ _ apart.0 (key_put cmp k ks apart.1)

-- ---- lists of entries whose keys rise

abbrev pub changed_at : {X : Type 0} → ℕ → (X → X) → List (ℕ × X) → List (ℕ × X)
changed_at k f [] = []
changed_at k f (e ∷ es) = if e.0 == k then (e.0, f e.1) ∷ es else e ∷ changed_at k f es

pub filter_passes : {A : Type 0} (p : A → Bool) (xs : List A) (x : A) → filter p xs ≡ x ∷ [] → p x ≡ true
filter_passes p [] x is = absurd cc
filter_passes p (y ∷ xs) x is = elim (cases_Bool (p y)) [
  | inl at ↦ let same : y ≡ x = (let e = rw at at is in cc) in ap p (sym same) ∙ at
  | inr other ↦ filter_passes p xs x (rw other at is)
]

none_left : {X : Type 0} (xs ys : List (ℕ × X)) (k : ℕ)
    → IsPermutation xs ys → filter (λ (e : ℕ × X). eqb e.0 k) ys ≡ [] → filter (λ (e : ℕ × X). eqb e.0 k) xs ≡ []
none_left xs ys k same none = none_permuted _ (IsPermutation-sym _ _
    (subst (IsPermutation (filter (λ e. eqb e.0 k) xs)) none (IsPermutation-filter (λ e. eqb e.0 k) xs ys same)))

one_left : {X : Type 0} (xs ys : List (ℕ × X)) (k : ℕ) (e : ℕ × X) → IsPermutation xs ys
    → filter (λ (e : ℕ × X). eqb e.0 k) ys ≡ e ∷ [] → filter (λ (e : ℕ × X). eqb e.0 k) xs ≡ e ∷ []
one_left xs ys k e same one = one_permutation e _ (IsPermutation-sym _ _
    (subst (IsPermutation (filter (λ e. eqb e.0 k) xs)) one (IsPermutation-filter (λ e. eqb e.0 k) xs ys same)))

none_changed : {X : Type 0} (k : ℕ) (f : X → X) (es : List (ℕ × X))
    → filter (λ (e : ℕ × X). eqb e.0 k) es ≡ [] → changed_at k f es ≡ es
none_changed k f [] none = refl
none_changed k f (e ∷ es) none = elim (cases_Bool (eqb e.0 k)) [
  | inl at ↦ absurd (let z = rw at at none in cc)
  | inr other ↦ rw other (ap (λ rest. e ∷ rest) (none_changed k f es (rw other at none)))
]

below_found : {X : Type 0} (low k : ℕ) (e : ℕ × X) (es : List (ℕ × X))
    → AllByRecursion (λ (b : ℕ × X). low < b.0) es → filter (λ (e : ℕ × X). eqb e.0 k) es ≡ e ∷ [] → low < k
below_found low k e es up one =
    let low_e : low < e.0 = found_of (λ b. low < b.0) (λ b. eqb b.0 k) es e up one in
    let is = filter_passes (λ (b : _). eqb b.0 k) es e one in
    let number : e.0 ≡ k = grind (arith, nat_tests, is) in
    omega (arith, low_e, number)

others_kept : {X : Type 0} (k : ℕ) (es : List (ℕ × X))
    → AllByRecursion (λ (b : ℕ × X). k < b.0) es → filter (λ (e : ℕ × X). not (eqb e.0 k)) es ≡ es
others_kept {X} k es up = all_left (λ (e : ℕ × X). eqb e.0 k) es
    (all_weaker (λ (b : ℕ × X). k < b.0) _ (λ b low. grind (arith, nat_tests, low)) es up)

put_first : {X : Type 0} (k : ℕ) (x : X) (es : List (ℕ × X))
    → AllByRecursion (λ (b : ℕ × X). k < b.0) es → insert_entry nat_cmp es k x ≡ (k, x) ∷ es
put_first k x [] up = refl
put_first k x (e ∷ es) up = let less : nat_cmp k e.0 ≡ Less = grind (arith, nat_tests, up.0) in rw less refl

put_back : {X : Type 0} (k : ℕ) (f : X → X) (e : ℕ × X) (es : List (ℕ × X))
    → IsAscending (λ (a b : ℕ × X). a.0 < b.0) es → filter (λ (e : ℕ × X). eqb e.0 k) es ≡ e ∷ []
    → insert_entry nat_cmp (filter (λ (e : ℕ × X). not (eqb e.0 k)) es) k (f e.1) ≡ changed_at k f es
put_back k f e [] up one = absurd cc
put_back {X} k f e (a ∷ es) up one = elim (cases_Bool (eqb a.0 k)) [
  | inl at ↦
      let same : a ≡ e = (let z = rw at at one in cc) in
      let number : a.0 ≡ k = grind (arith, nat_tests, at) in
      let over : AllByRecursion (λ (b : ℕ × X). k < b.0) es =
      subst (λ n. AllByRecursion (λ (b : ℕ × X). n < b.0) es) number up.0 in
      rw at (ap (λ rest. insert_entry nat_cmp rest k (f e.1)) (others_kept k es over) ∙ put_first k (f e.1) es over
      ∙ ap₂ (λ (n : ℕ) (b : ℕ × X). (n, f b.1) ∷ es) (sym number) (sym same))
  | inr other ↦
      let later : filter (λ (e : ℕ × X). eqb e.0 k) es ≡ e ∷ [] = rw other at one in
      let low : a.0 < k = below_found a.0 k e es up.0 later in
      let over : nat_cmp k a.0 ≡ Greater = grind (arith, nat_tests, low) in
      rw (other, over) (ap (λ rest. a ∷ rest) (put_back k f e es up.1 later))
]

-- ---- a row that is put into a table without its key

pub put_keyed : {X : Type 0} (cmp : X → X → Ordering) (total : IsTotalOrder cmp)
    (Good : Row → Type 0) (of : Row → X) (new : Row) (x : X) (rows : List Row)
    → IsTableOf cmp Good of rows → Good new → of new ≡ x → is_taken rows new ≡ false
    → AllByRecursion (λ y. is_eq (cmp x y) ≡ false) (in_key_order cmp of rows)
    → IsTableOf cmp Good of (put_row new rows)
    × (in_key_order cmp of (put_row new rows) ≡ insert_sorted cmp x (in_key_order cmp of rows))
put_keyed cmp total Good of new x rows was good is fresh apart =
    let keys =
    every_shuffled (λ y. is_eq (cmp x y) ≡ false) _ _ (IsPermutation-sort_by cmp total (map of rows)) apart in
    let put = put_makes cmp total Good of new rows was good fresh
    (subst (λ z. AllByRecursion (λ y. is_eq (cmp z y) ≡ false) (map of rows)) (sym is) keys) in
    (put.0, put.1 ∙ ap (λ z. insert_sorted cmp z (in_key_order cmp of rows)) is)

-- ---- tables whose key is the number of the row

module _ {X : Type 0} (columns : Row → Row) (of : Row → ℕ × X) (written : ℕ × X → Row)
    (numbered : (r : Row) → IsWrittenAs columns of written r → column r 0 ≡ int (of (columns r)).0) where
  abbrev Good : Row → Type 0
  Good = IsWrittenAs columns of written

  abbrev read : Row → ℕ × X
  read r = of (columns r)

  abbrev cmp : ℕ × X → ℕ × X → Ordering
  cmp = by_key nat_cmp

  total : IsTotalOrder cmp
  total = key_total nat_cmp_total

  apart_from : (k : ℕ) (new r : Row) → rowid new ≡ int k → Good r → is_eq (value_cmp (rowid r) (rowid new)) ≡ false
      → is_eq (nat_cmp k (read r).0) ≡ false
  apart_from k new r id good fresh = is_key k (read r).0 ∙ sym (same_number (read r).0 k)
      ∙ ap₂ (λ a b. is_eq (value_cmp a b)) (sym (numbered r good)) (sym id) ∙ fresh

  pub insert_makes : (new : Row) (k : ℕ) (x : X) (rows : List Row) → IsTable cmp columns of written rows → Good new
      → read new ≡ (k, x) → rowid new ≡ int k → is_taken rows new ≡ false
      → IsTable cmp columns of written (put_row new rows)
      × (in_key_order cmp read (put_row new rows) ≡ insert_entry nat_cmp (in_key_order cmp read rows) k x)
  insert_makes new k x rows was good is id fresh =
      let apart : AllByRecursion (λ r. is_eq (nat_cmp k (read r).0) ≡ false) rows =
      all_both Good _ _ (λ r h free. apart_from k new r id h free) rows was.good
      (none_from_any (λ r. is_eq (value_cmp (rowid r) (rowid new))) rows fresh) in
      let sorted = every_shuffled (λ (y : ℕ × X). is_eq (nat_cmp k y.0) ≡ false) _ _
      (IsPermutation-sym _ _ (IsPermutation-sort_by cmp total (map read rows))) (all_map _ read rows apart) in
      let put = put_keyed cmp total Good read new (k, x) rows was good is fresh sorted in
      (put.0, put.1 ∙ entry_put nat_cmp k x (in_key_order cmp read rows) sorted)

  -- ---- a row that is changed in its place

  tests : (k : ℕ) (rows : List Row)
      → AllByRecursion Good rows → AllByRecursion (λ r. not (has_rowid (pos k) r) ≡ not (eqb (read r).0 k)) rows
  tests k rows good = all_weaker Good _
      (λ r h. ap not (ap (λ v. is_eq (value_cmp v (int k))) (numbered r h) ∙ same_number (read r).0 k)) rows good

  not_kept : (k : ℕ) (new : Row) (rows : List Row) → rowid new ≡ int k
      → AllByRecursion (λ r. is_eq (value_cmp (rowid r) (rowid new)) ≡ false) (without_rowid (pos k) rows)
  not_kept k new [] is = tt
  not_kept k new (r ∷ rows) is = elim (cases_Bool (has_rowid (pos k) r)) [
    | inl at ↦ rw at (not_kept k new rows is)
    | inr other ↦ rw other (ap (λ v. is_eq (value_cmp (rowid r) v)) is ∙ other, not_kept k new rows is)
  ]

  -- at most one row has the number
  none_after : (k : ℕ) (a : Row) (rows : List Row)
      → (read a).0 ≡ k → AllByRecursion (λ (y : ℕ × X). is_eq (nat_cmp (read a).0 y.0) ≡ false) (map read rows)
      → filter (λ r. eqb (read r).0 k) rows ≡ []
  none_after k a [] is apart = refl
  none_after k a (r ∷ rows) is apart =
      let other : eqb (read r).0 k ≡ false =
      sym (is_key k (read r).0) ∙ ap (λ n. is_eq (nat_cmp n (read r).0)) (sym is) ∙ apart.0 in
      rw other (none_after k a rows is apart.1)

  pub few : (k : ℕ) (rows : List Row) → IsAscending (λ (a b : ℕ × X). is_eq (nat_cmp a.0 b.0) ≡ false) (map read rows)
      → (filter (λ r. eqb (read r).0 k) rows ≡ []) ⊎ ((r : Row) × (filter (λ r. eqb (read r).0 k) rows ≡ r ∷ []))
  few k [] apart = inl refl
  few k (r ∷ rows) apart = elim (cases_Bool (eqb (read r).0 k)) [
    | inl is ↦
        let number : (read r).0 ≡ k = grind (arith, nat_tests, is) in
        inr (r, rw is (ap (λ rs. r ∷ rs) (none_after k r rows number apart.0)))
    | inr other ↦ rw other (few k rows apart.1)
  ]

  rises : (rows : List Row) → IsTable cmp columns of written rows
      → IsAscending (λ (a b : ℕ × X). a.0 < b.0) (in_key_order cmp read rows)
  rises rows was = ascending_weaker _ _ (λ a b less. above a.0 b.0 less) (in_key_order cmp read rows)
      (sort_rises cmp total (map read rows) was.apart)
    where
      above : (a b : ℕ) → nat_cmp a b ≡ Less → a < b
      above a b less = grind (arith, nat_tests, less)

  -- What an update leaves of the rows: as they were where none has the number, else the one row changed.
  pub record Updated (k : ℕ) (f : X → X) (rows after : List Row) (r : Row) : Type 0 where
    pub found : filter (λ r. eqb (read r).0 k) rows ≡ r ∷ []
    pub new : Row
    pub after_is : after ≡ put_row new (without_rowid (pos k) rows)
    pub good : Good new
    pub reads : read new ≡ (k, f (read r).1)
    pub id : rowid new ≡ int k

  pub update_makes : (k : ℕ) (f : X → X) (rows after : List Row) → IsTable cmp columns of written rows
      → ((filter (λ r. eqb (read r).0 k) rows ≡ []) × (after ≡ rows)) ⊎ ((r : Row) × Updated k f rows after r)
      → IsTable cmp columns of written after
      × (in_key_order cmp read after ≡ changed_at k f (in_key_order cmp read rows))
  update_makes k f rows after was (inl none) =
      let mapped : filter (λ (e : ℕ × X). eqb e.0 k) (map read rows) ≡ [] =
      sym (filter_mapped cmp total Good read (λ r. eqb (read r).0 k) (λ e. eqb e.0 k) rows
      (all_weaker Good _ (λ r h. refl) rows was.good)) ∙ ap (map read) none.0 in
      let sorted : filter (λ (e : ℕ × X). eqb e.0 k) (in_key_order cmp read rows) ≡ [] =
      none_left (in_key_order cmp read rows) (map read rows) k
      (IsPermutation-sort_by cmp total (map read rows)) mapped in (
        subst (IsTable cmp columns of written) (sym none.1) was,
        ap (in_key_order cmp read) none.1 ∙ sym (none_changed k f (in_key_order cmp read rows) sorted),
      )
  update_makes k f rows after was (inr (r, did)) =
      let number : (read r).0 ≡ k =
      (let t = filter_passes (λ r. eqb (read r).0 k) rows r did.found in grind (arith, nat_tests, t)) in
      let cut = filter_makes cmp total Good read (λ r. not (has_rowid (pos k) r))
      (λ e. not (eqb e.0 k)) rows was (tests k rows was.good) in
      let free : is_taken (without_rowid (pos k) rows) did.new ≡ false =
      any_from_none _ _ (not_kept k did.new rows did.id) in
      let put =
      insert_makes did.new k (f (read r).1) (without_rowid (pos k) rows) cut.0 did.good did.reads did.id free in
      let one : filter (λ (e : ℕ × X). eqb e.0 k) (map read rows) ≡ read r ∷ [] =
      sym (filter_mapped cmp total Good read (λ r. eqb (read r).0 k) (λ e. eqb e.0 k) rows
      (all_weaker Good _ (λ r h. refl) rows was.good)) ∙ ap (map read) did.found in
      let sorted : filter (λ (e : ℕ × X). eqb e.0 k) (in_key_order cmp read rows) ≡ read r ∷ [] = one_left
      (in_key_order cmp read rows) (map read rows) k (read r) (IsPermutation-sort_by cmp total (map read rows)) one in (
        subst (IsTable cmp columns of written) (sym did.after_is) put.0,
        ap (in_key_order cmp read) did.after_is ∙ put.1 ∙ ap (λ es. insert_entry nat_cmp es k (f (read r).1)) cut.1
            ∙ put_back k f (read r) (in_key_order cmp read rows) (rises rows was) sorted,
      )
