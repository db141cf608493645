-- Tables in the order of their keys that have the same rows are the same, so rows can be added in any order.
use Rattle.std.proofs.Common.{ℕ, ◌≡◌, Bool, true, false, cond, Option, Some, None, List, [], ◌∷◌, refl, ap, sym, ◌∙◌}
use Rattle.std.proofs.Common.{subst, nat_cmp, Ordering, Less, Greater}
use Rattle.hotel_model.proofs.Names.{ordering_reverse, is_at, insert_entry, keys_of, nat_cmp_total, at_number}
use Rattle.hotel_model.proofs.OfTables.TableKeys.{at_inserted, is_at_self, same_number, swap_tests}
use Rattle.hotel_model.proofs.OfTables.KeysInOrder.{AllAfter, InOrder, in_order_inserted, keys_inserted}
use Rattle.hotel_model.proofs.OfTables.RowTests.{after_not_same}

not_found : {X : Type 0} (v : X) → ◌≡◌ (Some v) None → ⊥
not_found v e = cc

first_found : {X : Type 0} (e : ℕ × X) (es : List (ℕ × X)) → at_number (e ∷ es) e.0 ≡ Some e.1
first_found e es = ap (λ b. cond b (Some e.1) (at_number es e.0)) (is_at_self e.0)

-- what is found in a table in order is its first row, or comes after it
found_after : {X : Type 0} (k q : ℕ) (v : X) (es : List (ℕ × X))
    → AllAfter nat_cmp k (keys_of es) → at_number es q ≡ Some v → nat_cmp k q ≡ Less
found_after k q v [] a h = cc
found_after {X} k q v (e ∷ es) a h = by (is_at (nat_cmp q) e.0) refl h (found_after k q v es a.1)
  where
    by : (b : Bool) → is_at (nat_cmp q) e.0 ≡ b → cond b (Some e.1) (at_number es q) ≡ Some v
        → (at_number es q ≡ Some v → nat_cmp k q ≡ Less) → nat_cmp k q ≡ Less
    by true t g ih = ap (λ z. nat_cmp k z) (same_number q e.0 t) ∙ a.0
    by false t g ih = ih g

both_less : (a b : ℕ) → nat_cmp a b ≡ Less → nat_cmp b a ≡ Less → ⊥
both_less a b p q =
    let w : ◌≡◌ {A = Ordering} Less Greater = sym q ∙ nat_cmp_total.antisymm b a ∙ ap ordering_reverse p in cc

-- the first rows of two tables with the same rows have one key
same_first : {X : Type 0} (a b : ℕ × X) (xs ys : List (ℕ × X)) → InOrder nat_cmp (keys_of (a ∷ xs))
    → InOrder nat_cmp (keys_of (b ∷ ys)) → ((q : ℕ) → at_number (a ∷ xs) q ≡ at_number (b ∷ ys) q) → a.0 ≡ b.0
same_first {X} a b xs ys s t f = by (is_at (nat_cmp a.0) b.0) refl (is_at (nat_cmp b.0) a.0) refl
  where
    by : (c : Bool) → is_at (nat_cmp a.0) b.0 ≡ c → (d : Bool) → is_at (nat_cmp b.0) a.0 ≡ d → a.0 ≡ b.0
    by true e d g = same_number a.0 b.0 e
    by false e true g = sym (same_number b.0 a.0 g)
    by false e false g =
        let in_ys : at_number ys a.0 ≡ Some a.1 =
        ap (λ z. cond z (Some b.1) (at_number ys a.0)) (sym e) ∙ sym (f a.0) ∙ first_found a xs in
        let in_xs : at_number xs b.0 ≡ Some b.1 =
        ap (λ z. cond z (Some a.1) (at_number xs b.0)) (sym g) ∙ f b.0 ∙ first_found b ys in
        absurd (both_less a.0 b.0 (found_after a.0 b.0 b.1 xs s.0 in_xs) (found_after b.0 a.0 a.1 ys t.0 in_ys))

later_same : {X : Type 0} (xs ys : List (ℕ × X)) (a b : ℕ × X) (q : ℕ)
    → InOrder nat_cmp (keys_of (a ∷ xs)) → InOrder nat_cmp (keys_of (b ∷ ys)) → a.0 ≡ b.0
    → at_number (a ∷ xs) q ≡ at_number (b ∷ ys) q → at_number xs q ≡ at_number ys q
later_same {X} xs ys a b q s t k f = by (is_at (nat_cmp q) a.0) refl (at_number xs q) refl (at_number ys q) refl
  where
    same_test : is_at (nat_cmp q) b.0 ≡ is_at (nat_cmp q) a.0
    same_test = ap (λ z. is_at (nat_cmp q) z) (sym k)

    clash : (c : Bool) → c ≡ true → c ≡ false → ⊥
    clash true e g = let w : ◌≡◌ {A = Bool} true false = g in cc
    clash false e g = let w : ◌≡◌ {A = Bool} false true = e in cc

    by : (c : Bool) → is_at (nat_cmp q) a.0 ≡ c → (o : Option X) → at_number xs q ≡ o → (p : Option X)
        → at_number ys q ≡ p → at_number xs q ≡ at_number ys q
    by true e (Some v) g p h =
        absurd (clash (is_at (nat_cmp q) a.0) e (after_not_same nat_cmp nat_cmp_total a.0 q v xs s.0 g))
    by true e None g (Some w) h =
        absurd (clash (is_at (nat_cmp q) a.0) e (sym same_test ∙ after_not_same nat_cmp nat_cmp_total b.0 q w ys t.0 h))
    by true e None g None h = g ∙ sym h
    by false e o g p h =
        ap (λ z. cond z (Some a.1) (at_number xs q)) (sym e) ∙ f
        ∙ ap (λ z. cond z (Some b.1) (at_number ys q)) (same_test ∙ e)

-- Tables in order that have the same rows are the same.
pub same_tables : {X : Type 0} (xs ys : List (ℕ × X)) → InOrder nat_cmp (keys_of xs) → InOrder nat_cmp (keys_of ys)
    → ((q : ℕ) → at_number xs q ≡ at_number ys q) → xs ≡ ys
same_tables [] [] s t f = refl
same_tables [] (b ∷ ys) s t f = absurd (not_found b.1 (sym (first_found b ys) ∙ sym (f b.0)))
same_tables (a ∷ xs) [] s t f = absurd (not_found a.1 (sym (first_found a xs) ∙ f a.0))
same_tables (a ∷ xs) (b ∷ ys) s t f =
    let k = same_first a b xs ys s t f in
    let values : Some a.1 ≡ Some b.1 = sym (first_found a xs) ∙ f a.0 ∙ ap (at_number (b ∷ ys)) k ∙ first_found b ys in
    let v : a.1 ≡ b.1 = cc in
    let later = same_tables xs ys s.1 t.1 (λ q. later_same xs ys a b q s t k (f q)) in
    ap (λ z. (z, a.1) ∷ xs) k ∙ ap (λ z. (b.0, z) ∷ xs) v ∙ ap (λ zs. b ∷ zs) later

-- keys in order, with a row more
pub in_order_with : {X : Type 0} (es : List (ℕ × X)) (k : ℕ) (v : X)
    → InOrder nat_cmp (keys_of es) → InOrder nat_cmp (keys_of (insert_entry nat_cmp es k v))
in_order_with es k v s = subst (InOrder nat_cmp) (sym (keys_inserted nat_cmp k v es))
    (in_order_inserted nat_cmp nat_cmp_total k (keys_of es) s)

-- Rows of two keys can be added in either order.
pub added_in_any_order : {X : Type 0} (es : List (ℕ × X)) (j k : ℕ) (v w : X)
    → (j ≡ k → ⊥) → InOrder nat_cmp (keys_of es)
    → insert_entry nat_cmp (insert_entry nat_cmp es j v) k w ≡ insert_entry nat_cmp (insert_entry nat_cmp es k w) j v
added_in_any_order {X} es j k v w apart s =
    same_tables _ _ (in_order_with _ k w (in_order_with es j v s)) (in_order_with _ j v (in_order_with es k w s))
    (λ q. at_inserted (insert_entry nat_cmp es j v) k w q
    ∙ ap (λ o. cond (is_at (nat_cmp q) k) (Some w) o) (at_inserted es j v q)
    ∙ swap_tests (is_at (nat_cmp q) k) (is_at (nat_cmp q) j) (Some w) (Some v) (at_number es q)
    (λ a b. apart (sym (same_number q j b) ∙ same_number q k a))
    ∙ ap (λ o. cond (is_at (nat_cmp q) j) (Some v) o) (sym (at_inserted es k w q))
    ∙ sym (at_inserted (insert_entry nat_cmp es k w) j v q))
