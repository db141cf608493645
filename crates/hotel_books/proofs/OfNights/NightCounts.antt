-- Counts at nights, after those of one block were changed.
use Rattle.std.proofs.Common.{ℕ, ◌≡◌, ◌+◌, ◌-◌, ◌*◌, ◌/◌, ◌%◌, ◌≤◌, ◌<◌, Bool, true, false, cond, Option, Some, None}
use Rattle.std.proofs.Common.{List, [], zero, suc, get_or, replicate, refl, ap, sym, ◌∙◌, arith, nat_le, nat_lt, subst}
use Rattle.std.proofs.Common.{◌==◌, ◌&&◌, bytes_eq, slice_index, nat_cmp, is_eq}
use Rattle.hotel_books.proofs.Names.{slice_cmp, is_at, lookup, nat_tests, bytes_eq-Decides, one_if, block_cmp, block_at}
use Rattle.hotel_books.proofs.Names.{counted, spans}
use Rattle.std.specs.Option.{unwrap_or}
use Rattle.std.proofs.lemmas.Map.Text.{is_eq-slice_cmp}
use Rattle.hotel_books.proofs.OfTables.MapEntries.{both_equal, at_is, eq_from}
use Rattle.hotel_model.proofs.OfTables.Tests.{and_true}

-- ---- the test of a key

block_is : (kind : List ℕ) (b : ℕ) (k : List ℕ) (c : ℕ)
    → is_at (block_cmp (kind, b)) (k, c) ≡ (bytes_eq kind k && (c == b))
block_is kind b k c =
    both_equal (slice_cmp nat_cmp kind k) (nat_cmp b c) ∙ ap (λ z. z && is_eq (nat_cmp b c)) (is_eq-slice_cmp kind k)
    ∙ ap (λ z. bytes_eq kind k && z) (at_is b c)

-- ---- one block changed

-- the list has these counts, or none, at a block of a kind, and at each other what was there
abbrev pub Sets : List ((List ℕ × ℕ) × List ℕ) → List ((List ℕ × ℕ) × List ℕ) → List ℕ → ℕ → Option (List ℕ) → Type 0
Sets before after kind b w = (q : List ℕ × ℕ)
    → lookup (is_at (block_cmp q)) after ≡ cond (is_at (block_cmp (kind, b)) q) w (lookup (is_at (block_cmp q)) before)

pub taken_in : {A : Type 0} (none : A) (b : Bool) (w o : Option A)
    → unwrap_or (cond b w o) none ≡ cond b (unwrap_or w none) (unwrap_or o none)
taken_in none true w o = refl
taken_in none false w o = refl

set_at : (before after : List ((List ℕ × ℕ) × List ℕ)) (kind : List ℕ) (b : ℕ) (w : Option (List ℕ))
    → Sets before after kind b w → (k : List ℕ) (c : ℕ)
    → block_at after k c ≡ cond (bytes_eq kind k && (c == b)) (unwrap_or w []) (block_at before k c)
set_at before after kind b w u k c =
    ap (λ o. unwrap_or o []) (u (k, c))
    ∙ taken_in [] (is_at (block_cmp (kind, b)) (k, c)) w (lookup (is_at (block_cmp (k, c))) before)
    ∙ ap (λ z. cond z (unwrap_or w []) (block_at before k c)) (block_is kind b k c)

-- within a block, nights are in order as their places are
place_same : (from to d : ℕ) → from < to → to ≤ from / 32 * 32 + 32 → d / 32 ≡ from / 32
    → (nat_le (from % 32) (d % 32) && nat_lt (d % 32) (from % 32 + (to - from))) ≡ (nat_le from d && nat_lt d to)
place_same from to d lt one same =
    let low : nat_le (from % 32) (d % 32) ≡ nat_le from d = grind (arith, nat_tests) in
    let high : nat_lt (d % 32) (from % 32 + (to - from)) ≡ nat_lt d to = grind (arith, nat_tests) in
    (λ i. low i && high i)

both_false : (x y : Bool) → (x ≡ true → y ≡ false) → (x && y) ≡ false
both_false true y h = h refl
both_false false y h = refl

place_other : (from to d : ℕ) → from < to → to ≤ from / 32 * 32 + 32 → (d / 32 == from / 32) ≡ false
    → (nat_le from d && nat_lt d to) ≡ false
place_other from to d lt one other = both_false (nat_le from d) (nat_lt d to) (λ low. grind (arith, nat_tests))

-- the counts of some nights of one block are changed, as `Turns` says of the count before, whether it is one of the
-- nights, and the count after; each other is as it was
pub part_changed : (Turns : ℕ → ℕ → ℕ → Type 0) → ((x : ℕ) → Turns x 0 x)
    → (before after : List ((List ℕ × ℕ) × List ℕ)) (kind : List ℕ) (from to : ℕ) (w : Option (List ℕ))
    → from < to → to ≤ from / 32 * 32 + 32
    → Sets before after kind (from / 32) w
    → ((j : ℕ) → Turns (slice_index (block_at before kind (from / 32)) j)
    (one_if (nat_le (from % 32) j && nat_lt j (from % 32 + (to - from)))) (slice_index (unwrap_or w []) j))
    → (k : List ℕ) (d : ℕ) → Turns (counted before k d) (one_if (spans kind from to k d)) (counted after k d)
part_changed Turns none before after kind from to w lt one u g k d =
    subst (λ n. Turns (counted before k d) (one_if (spans kind from to k d)) n) (sym here)
    (by (bytes_eq kind k) (d / 32 == from / 32) refl refl)
  where
    here : counted after k d ≡ slice_index (cond (bytes_eq kind k && (d / 32 == from / 32)) (unwrap_or w [])
        (block_at before k (d / 32))) (d % 32)
    here = ap (λ xs. slice_index xs (d % 32)) (set_at before after kind (from / 32) w u k (d / 32))

    by : (x y : Bool) → bytes_eq kind k ≡ x → (d / 32 == from / 32) ≡ y
        → Turns (counted before k d) (one_if (spans kind from to k d)) (slice_index
        (cond (bytes_eq kind k && (d / 32 == from / 32)) (unwrap_or w []) (block_at before k (d / 32))) (d % 32))
    by false y e h =
        subst (λ b. Turns (counted before k d) (one_if (b && (nat_le from d && nat_lt d to)))
        (slice_index (cond (b && (d / 32 == from / 32)) (unwrap_or w []) (block_at before k (d / 32))) (d % 32)))
        (sym e)
        (none (counted before k d))
    by true false e h =
        subst (λ b. Turns (counted before k d) (one_if (b && (nat_le from d && nat_lt d to)))
        (slice_index (cond (b && (d / 32 == from / 32)) (unwrap_or w []) (block_at before k (d / 32))) (d % 32)))
        (sym e)
        (subst (λ b. Turns (counted before k d) (one_if (nat_le from d && nat_lt d to))
        (slice_index (cond b (unwrap_or w []) (block_at before k (d / 32))) (d % 32))) (sym h)
        (subst (λ b. Turns (counted before k d) (one_if b) (counted before k d))
        (sym (place_other from to d lt one h)) (none (counted before k d))))
    by true true e h =
        let q : kind ≡ k = (bytes_eq-Decides kind k).0 e in
        let b : d / 32 ≡ from / 32 = eq_from (d / 32) (from / 32) h in
        subst (λ b. Turns (counted before k d) (one_if (b && (nat_le from d && nat_lt d to)))
        (slice_index (cond (b && (d / 32 == from / 32)) (unwrap_or w []) (block_at before k (d / 32))) (d % 32)))
        (sym e)
        (subst (λ b. Turns (counted before k d) (one_if (nat_le from d && nat_lt d to))
        (slice_index (cond b (unwrap_or w []) (block_at before k (d / 32))) (d % 32))) (sym h)
        (subst (λ (p : List ℕ × ℕ). Turns (slice_index (block_at before p.0 p.1) (d % 32))
        (one_if (nat_le from d && nat_lt d to)) (slice_index (unwrap_or w []) (d % 32))) (λ i. (q i, sym b i))
        (subst (λ t. Turns (slice_index (block_at before kind (from / 32)) (d % 32)) (one_if t)
        (slice_index (unwrap_or w []) (d % 32))) (place_same from to d lt one b) (g (d % 32)))))

-- as many in place of none: two changes of one block are the second
pub sets_twice : (before mid after : List ((List ℕ × ℕ) × List ℕ)) (kind : List ℕ) (b : ℕ) (v w : Option (List ℕ))
    → Sets before mid kind b v → Sets mid after kind b w → Sets before after kind b w
sets_twice before mid after kind b v w first second q = second q ∙ by (is_at (block_cmp (kind, b)) q) (first q)
  where
    by : (t : Bool) → lookup (is_at (block_cmp q)) mid ≡ cond t v (lookup (is_at (block_cmp q)) before)
        → cond t w (lookup (is_at (block_cmp q)) mid) ≡ cond t w (lookup (is_at (block_cmp q)) before)
    by true h = refl
    by false h = h

-- of a block that isn't there, no night is taken
pub part_absent : (blocks : List ((List ℕ × ℕ) × List ℕ)) (kind : List ℕ) (from to : ℕ)
    → from < to → to ≤ from / 32 * 32 + 32 → block_at blocks kind (from / 32) ≡ []
    → (k : List ℕ) (d : ℕ) → counted blocks k d ≡ counted blocks k d - one_if (spans kind from to k d)
part_absent blocks kind from to lt one none k d = by (spans kind from to k d) refl
  where
    by : (t : Bool) → spans kind from to k d ≡ t → counted blocks k d ≡ counted blocks k d - one_if t
    by false h = omega arith
    by true h =
        let two = and_true (bytes_eq kind k) (nat_le from d && nat_lt d to) h in
        let in_part = and_true (nat_le from d) (nat_lt d to) two.1 in
        let q : kind ≡ k = (bytes_eq-Decides kind k).0 two.0 in
        let b : from / 32 ≡ d / 32 = grind (arith, nat_tests) in
        let zero : counted blocks k d ≡ 0 =
        (λ i. slice_index (block_at blocks (sym q i) (sym b i)) (d % 32)) ∙ ap (λ xs. slice_index xs (d % 32)) none in
        omega (arith, zero)

pub more_by : (b : Bool) (x y : ℕ) → (b ≡ true → x ≡ y) → cond b (x + 1) y ≡ y + one_if b
more_by true x y e = ap (λ z. z + 1) (e refl)
more_by false x y e = omega arith

-- ---- no counts

zeros_of : (n j : ℕ) → get_or {A = ℕ} (replicate {A = ℕ} n 0) j 0 ≡ 0
zeros_of zero j = refl
zeros_of (suc n) zero = refl
zeros_of (suc n) (suc j) = zeros_of n j

pub zeros : (j : ℕ) → slice_index (replicate {A = ℕ} 32 0) j ≡ 0
zeros j = zeros_of 32 j

-- 32 zeros in place of no counts
pub none_or_zeros : (o : Option (List ℕ)) (j : ℕ)
    → slice_index (unwrap_or o (replicate {A = ℕ} 32 0)) j ≡ slice_index (unwrap_or o []) j
none_or_zeros None j = zeros j
none_or_zeros (Some xs) j = refl

-- the count at a night, read from the counts of its block
pub read_part : (before blocks : List ((List ℕ × ℕ) × List ℕ)) (kind : List ℕ) (from d : ℕ) (counts : List ℕ)
    → before ≡ blocks
    → counts ≡ unwrap_or (lookup (is_at (block_cmp (kind, from / 32))) before) (replicate {A = ℕ} 32 0)
    → d / 32 ≡ from / 32 → counted blocks kind d ≡ slice_index counts (d % 32)
read_part before blocks kind from d counts same is b =
    (λ i. slice_index (block_at (sym same i) kind (b i)) (d % 32))
    ∙ sym (none_or_zeros (lookup (is_at (block_cmp (kind, from / 32))) before) (d % 32))
    ∙ ap (λ xs. slice_index xs (d % 32)) (sym is)
