-- The greatest count of some nights, part by part.
use Rattle.std.proofs.Common.{ℕ, zero, suc, ◌≡◌, ◌+◌, ◌-◌, ◌<◌, ◌≤◌, max, arith, add-one, refl, ap, ◌∙◌}
use Rattle.hotel_model.specs.Words.{greatest}

-- the first of the nights, and those after it
pub greatest_first : (f : ℕ → ℕ) (d end : ℕ)
    → d < end → greatest f d (end - d) ≡ max (f d) (greatest f (d + 1) (end - (d + 1)))
unfolding greatest
greatest_first f d end lt =
    let e : end - d ≡ suc (end - (d + 1)) = omega arith in
    rw (e, add-one) refl

-- no nights
pub greatest_end : (f : ℕ → ℕ) (d end : ℕ) → end ≤ d → greatest f d (end - d) ≡ 0
unfolding greatest
greatest_end f d end le = let e : end - d ≡ 0 = omega arith in rw e refl

split : (f : ℕ → ℕ) (d m n : ℕ) → greatest f d (m + n) ≡ max (greatest f d m) (greatest f (d + m) n)
unfolding greatest
split f d zero n =
    let q : zero + n ≡ n = omega arith in
    let q2 : d + zero ≡ d = omega arith in
    rw (q, q2) (omega arith)
split f d (suc m) n =
    let q : suc m + n ≡ suc (m + n) = omega arith in
    let q2 : d + suc m ≡ suc d + m = omega arith in
    let later : greatest f (suc d) (m + n) ≡ max (greatest f (suc d) m) (greatest f (suc d + m) n) =
    split f (suc d) m n in
    rw (q, q2) (omega (arith, later))

-- a first part, and the rest
pub greatest_parts : (f : ℕ → ℕ) (d mid end : ℕ) → d ≤ mid → mid ≤ end
    → greatest f d (end - d) ≡ max (greatest f d (mid - d)) (greatest f mid (end - mid))
greatest_parts f d mid end le le' =
    let q : end - d ≡ (mid - d) + (end - mid) = omega arith in
    let q2 : d + (mid - d) ≡ mid = omega arith in
    ap (greatest f d) q ∙ split f d (mid - d) (end - mid)
    ∙ ap (λ m. max (greatest f d (mid - d)) (greatest f m (end - mid))) q2
