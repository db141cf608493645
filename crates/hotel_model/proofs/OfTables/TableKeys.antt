-- Look-ups in a table after a row was added.
use Rattle.std.proofs.Common.{ℕ, ◌≡◌, Bool, true, false, cond, Option, Some, None, List, [], ◌∷◌, ◌⊎◌, inl, inr, refl}
use Rattle.std.proofs.Common.{ap, sym, ◌∙◌, subst, arith, ◌==◌, ◌||◌, is_some, nat_cmp, Ordering, Less, Equal, Greater}
use Rattle.hotel_model.proofs.Names.{match_ordering, is_at, insert_entry, keys_of, exact_unsigned, nat_tests, is_one_of}
use Rattle.hotel_model.proofs.Names.{at_number}
use Rattle.hotel_model.proofs.OfTables.Tests.{eq_from, eq_self, same_bool, equal_tested, some_there}

pub same_number : (q k : ℕ) → is_at (nat_cmp q) k ≡ true → q ≡ k
same_number q k h = exact_unsigned q k (equal_tested (nat_cmp q k) h)

pub is_at_self : (k : ℕ) → is_at (nat_cmp k) k ≡ true
is_at_self k = grind (arith, nat_tests)

pub at_is : (q k : ℕ) → is_at (nat_cmp q) k ≡ (k == q)
at_is q k = same_bool _ _ (λ h. ap (λ z. k == z) (same_number q k h) ∙ eq_self k)
    (λ h. ap (is_at (nat_cmp q)) (eq_from k q h) ∙ is_at_self q)

pub swap_tests : {X : Type 0} (a b : Bool) (x v rest : Option X)
    → (a ≡ true → b ≡ true → ⊥) → cond a x (cond b v rest) ≡ cond b v (cond a x rest)
swap_tests true true x v rest h = absurd (h refl refl)
swap_tests true false x v rest h = refl
swap_tests false true x v rest h = refl
swap_tests false false x v rest h = refl

same_tests : {X : Type 0} (a : Bool) (x v rest : Option X) → cond a v rest ≡ cond a v (cond a x rest)
same_tests true x v rest = refl
same_tests false x v rest = refl

at_inserted_by : {X : Type 0} (o : Ordering) (e : ℕ × X) (es : List (ℕ × X)) (k : ℕ) (v : X) (q : ℕ) → nat_cmp k e.0 ≡ o
    → at_number (insert_entry nat_cmp es k v) q ≡ cond (is_at (nat_cmp q) k) (Some v) (at_number es q)
    → at_number (match_ordering o ((k, v) ∷ e ∷ es) ((e.0, v) ∷ es) (e ∷ insert_entry nat_cmp es k v)) q
    ≡ cond (is_at (nat_cmp q) k) (Some v) (at_number (e ∷ es) q)
at_inserted_by Less e es k v q c ih = refl
at_inserted_by {X} Equal e es k v q c ih =
    let P : ℕ → Type 0 = λ z. cond (is_at (nat_cmp q) z) (Some v) (at_number es q)
    ≡ cond (is_at (nat_cmp q) k) (Some v) (cond (is_at (nat_cmp q) z) (Some e.1) (at_number es q)) in
    subst P (exact_unsigned k e.0 c) (same_tests (is_at (nat_cmp q) k) (Some e.1) (Some v) (at_number es q))
at_inserted_by {X} Greater e es k v q c ih =
    ap (λ r. cond (is_at (nat_cmp q) e.0) (Some e.1) r) ih
    ∙ swap_tests (is_at (nat_cmp q) e.0) (is_at (nat_cmp q) k) (Some e.1) (Some v) (at_number es q)
    (λ s t. apart (nat_cmp k e.0) c
    (ap (λ z. nat_cmp z e.0) (sym (same_number q k t)) ∙ equal_tested (nat_cmp q e.0) s))
  where
    apart : (o : Ordering) → o ≡ Greater → o ≡ Equal → ⊥
    apart o g e = let w : ◌≡◌ {A = Ordering} Greater Equal = sym g ∙ e in cc

-- what a table has after a row was added
pub at_inserted : {X : Type 0} (es : List (ℕ × X)) (k : ℕ) (v : X) (q : ℕ)
    → at_number (insert_entry nat_cmp es k v) q ≡ cond (is_at (nat_cmp q) k) (Some v) (at_number es q)
at_inserted [] k v q = refl
at_inserted (e ∷ es) k v q = at_inserted_by (nat_cmp k e.0) e es k v q refl (at_inserted es k v q)

by_test : {X : Type 0} (b : Bool) (v w : X) (rest : Option X)
    → cond b (Some v) rest ≡ Some w → ((b ≡ true) × (v ≡ w)) ⊎ (rest ≡ Some w)
by_test true v w rest h = inl (refl, cc)
by_test false v w rest h = inr h

-- a row of the table is the added one, or was there
pub row_inserted : {X : Type 0} (es : List (ℕ × X)) (k : ℕ) (v w : X) (q : ℕ)
    → at_number (insert_entry nat_cmp es k v) q ≡ Some w → ((q ≡ k) × (v ≡ w)) ⊎ (at_number es q ≡ Some w)
row_inserted es k v w q h =
    elim (by_test (is_at (nat_cmp q) k) v w (at_number es q) (sym (at_inserted es k v q) ∙ h)) [
      | inl p ↦ inl (same_number q k p.0, p.1)
      | inr p ↦ inr p
    ]

kept_by : {X : Type 0} (b : Bool) (v w : X) (was : Option X)
    → (b ≡ true → was ≡ None) → was ≡ Some w → cond b (Some v) was ≡ Some w
kept_by true v w was n h = let e : ◌≡◌ (Some w) None = sym h ∙ n refl in cc
kept_by false v w was n h = h

-- a row that was there stays, where the added key is new
pub row_kept : {X : Type 0} (es : List (ℕ × X)) (k : ℕ) (v w : X) (q : ℕ)
    → at_number es k ≡ None → at_number es q ≡ Some w → at_number (insert_entry nat_cmp es k v) q ≡ Some w
row_kept es k v w q n h = at_inserted es k v q
    ∙ kept_by (is_at (nat_cmp q) k) v w (at_number es q) (λ t. ap (at_number es) (same_number q k t) ∙ n) h

pub row_added : {X : Type 0} (es : List (ℕ × X)) (k : ℕ) (v : X) → at_number (insert_entry nat_cmp es k v) k ≡ Some v
row_added es k v = at_inserted es k v k ∙ ap (λ b. cond b (Some v) (at_number es k)) (is_at_self k)

or_some : {X : Type 0} (b : Bool) (v : X) (o : Option X) → (b || is_some o) ≡ is_some (cond b (Some v) o)
or_some true v o = refl
or_some false v o = refl

-- a number is a key exactly where the table has a row of it
pub is_key : {X : Type 0} (es : List (ℕ × X)) (q : ℕ) → is_one_of q (keys_of es) ≡ is_some (at_number es q)
is_key [] q = refl
is_key (e ∷ es) q =
    ap (λ z. (e.0 == q) || z) (is_key es q) ∙ or_some (e.0 == q) e.1 (at_number es q)
    ∙ ap (λ b. is_some (cond b (Some e.1) (at_number es q))) (sym (at_is q e.0))

-- the keys after a row was added
pub key_inserted : {X : Type 0} (es : List (ℕ × X)) (k : ℕ) (v : X) (q : ℕ)
    → is_one_of q (keys_of (insert_entry nat_cmp es k v)) ≡ ((k == q) || is_one_of q (keys_of es))
key_inserted es k v q =
    is_key (insert_entry nat_cmp es k v) q ∙ ap is_some (at_inserted es k v q)
    ∙ ap (λ b. is_some (cond b (Some v) (at_number es q))) (at_is q k)
    ∙ sym (or_some (k == q) v (at_number es q)) ∙ ap (λ z. (k == q) || z) (sym (is_key es q))

none_there : {X : Type 0} (o : Option X) → is_some o ≡ false → o ≡ None
none_there None e = refl
none_there (Some x) e = cc

-- what is no key has no row
pub no_key : {X : Type 0} (es : List (ℕ × X)) (q : ℕ) → is_one_of q (keys_of es) ≡ false → at_number es q ≡ None
no_key es q e = none_there (at_number es q) (sym (is_key es q) ∙ e)

-- a key has a row
pub row_of_key : {X : Type 0} (es : List (ℕ × X)) (q : ℕ)
    → is_one_of q (keys_of es) ≡ true → (x : X) × (at_number es q ≡ Some x)
row_of_key es q e = some_there (at_number es q) (sym (is_key es q) ∙ e)
