-- Tables whose numbers are 1, 2 and so on.
use Rattle.std.proofs.Common.{ℕ, ◌≡◌, ◌≤◌, ◌<◌, ◌+◌, Bool, true, false, None, List, [], ◌∷◌, ◌++◌, length, ◌⊎◌, inl}
use Rattle.std.proofs.Common.{inr, refl, ap, ◌∙◌, arith, ◌==◌, ◌&&◌, ◌||◌, nat_cmp, Greater}
use Rattle.hotel_model.proofs.Names.{match_ordering, insert_entry, keys_of, nat_tests, is_one_of, at_number, count_up}
use Rattle.hotel_model.proofs.{OfTables.Tests.eq_from, OfTables.Tests.eq_self, OfTables.Tests.and_true}
use Rattle.hotel_model.proofs.{OfTables.TableKeys.no_key}

pub greater_is : (k n : ℕ) → n < k → nat_cmp k n ≡ Greater
greater_is k n lt = grind (arith, nat_tests)

-- A row with the next number comes at the end.
pub comes_last : {X : Type 0} (n : ℕ) (es : List (ℕ × X)) (k : ℕ) (v : X)
    → count_up n (keys_of es) ≡ true → k ≡ n + length es → insert_entry nat_cmp es k v ≡ es ++ (k, v) ∷ []
comes_last n [] k v up e = refl
comes_last n (x ∷ es) k v up e =
    let t = and_true (x.0 == n) (count_up (n + 1) (keys_of es)) up in
    let here : x.0 ≡ n = eq_from x.0 n t.0 in
    let past : nat_cmp k x.0 ≡ Greater = greater_is k x.0 (omega arith) in
    ap (λ o. match_ordering o ((k, v) ∷ x ∷ es) ((x.0, v) ∷ es) (x ∷ insert_entry nat_cmp es k v)) past
    ∙ ap (λ zs. x ∷ zs) (comes_last (n + 1) es k v t.1 (omega arith))

both : (a b : Bool) → a ≡ true → b ≡ true → (a && b) ≡ true
both a b s t = ap (λ z. z && b) s ∙ t

pub counts_on : {X : Type 0} (n : ℕ) (es : List (ℕ × X)) (k : ℕ) (v : X)
    → count_up n (keys_of es) ≡ true → k ≡ n + length es → count_up n (keys_of (es ++ (k, v) ∷ [])) ≡ true
counts_on n [] k v up e = let same : k ≡ n = omega arith in both (k == n) true (ap (λ z. z == n) same ∙ eq_self n) refl
counts_on n (x ∷ es) k v up e =
    let t = and_true (x.0 == n) (count_up (n + 1) (keys_of es)) up in
    both (x.0 == n) _ t.0 (counts_on (n + 1) es k v t.1 (omega arith))

-- numbers before the first or past the last one are no keys
pub not_counted : {X : Type 0} (n : ℕ) (es : List (ℕ × X)) (q : ℕ)
    → count_up n (keys_of es) ≡ true → (q < n) ⊎ (n + length es ≤ q) → is_one_of q (keys_of es) ≡ false
not_counted n [] q up out = refl
not_counted n (x ∷ es) q up out =
    let t = and_true (x.0 == n) (count_up (n + 1) (keys_of es)) up in
    let here : x.0 ≡ n = eq_from x.0 n t.0 in
    neither (x.0 == q) _ (differ x.0 q (apart out here)) (not_counted (n + 1) es q t.1 (later out))
  where
    neither : (a b : Bool) → a ≡ false → b ≡ false → (a || b) ≡ false
    neither a b s t = ap (λ z. z || b) s ∙ t

    differ : (a b : ℕ) → (a < b) ⊎ (b < a) → (a == b) ≡ false
    differ a b (inl lt) = grind (arith, nat_tests)
    differ a b (inr lt) = grind (arith, nat_tests)

    apart : (q < n) ⊎ (n + length (x ∷ es) ≤ q) → x.0 ≡ n → (x.0 < q) ⊎ (q < x.0)
    apart (inl lt) e = inr (omega arith)
    apart (inr le) e = inl (omega arith)

    later : (q < n) ⊎ (n + length (x ∷ es) ≤ q) → (q < n + 1) ⊎ (n + 1 + length es ≤ q)
    later (inl lt) = inl (omega arith)
    later (inr le) = inr (omega arith)

-- the next number has no row
pub next_is_free : {X : Type 0} (es : List (ℕ × X))
    → count_up 1 (keys_of es) ≡ true → at_number es (length es + 1) ≡ None
next_is_free es up = no_key es (length es + 1) (not_counted 1 es (length es + 1) up (inr (omega arith)))

pub length_snoc : {X : Type 0} (xs : List X) (x : X) → length (xs ++ x ∷ []) ≡ length xs + 1
length_snoc [] x = refl
length_snoc (y ∷ ys) x = let p = length_snoc ys x in omega arith

-- the table with a row of the next number: it counts on, and is one longer
pub counts_more : {X : Type 0} (es : List (ℕ × X)) (k : ℕ) (v : X) → count_up 1 (keys_of es) ≡ true → k ≡ length es + 1
    → (count_up 1 (keys_of (insert_entry nat_cmp es k v)) ≡ true)
    × (length (insert_entry nat_cmp es k v) ≡ length es + 1)
counts_more es k v up e =
    let next : k ≡ 1 + length es = omega arith in
    let last = comes_last 1 es k v up next in (
      ap (λ zs. count_up 1 (keys_of zs)) last ∙ counts_on 1 es k v up next,
      ap (λ zs. length zs) last ∙ length_snoc es (k, v),
    )
