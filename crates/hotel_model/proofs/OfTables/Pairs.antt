-- Pairs of numbers as keys.
use Rattle.std.proofs.Common.{ℕ, ◌≡◌, true, refl, ap, ◌∙◌, ◌==◌, ◌&&◌, is_eq, nat_cmp, Ordering, Less, Equal, Greater}
use Rattle.hotel_model.proofs.Names.{ordering_then, IsTotalOrder, nat_cmp_total, on_total, then_total, exact_unsigned}
use Rattle.hotel_model.proofs.Names.{pair_cmp}
use Rattle.hotel_model.proofs.{OfTables.Tests.equal_tested, OfTables.TableKeys.at_is}

pub pair_cmp_total : IsTotalOrder pair_cmp
pair_cmp_total = then_total (on_total (λ p. p.0) nat_cmp_total) (on_total (λ p. p.1) nat_cmp_total)

both_equal : (a b : Ordering) → is_eq (ordering_then a b) ≡ (is_eq a && is_eq b)
both_equal Less b = refl
both_equal Equal b = refl
both_equal Greater b = refl

-- the test of a pair
pub pair_is : (a b : ℕ) (e : ℕ × ℕ) → is_eq (pair_cmp (a, b) e) ≡ ((e.0 == a) && (e.1 == b))
pair_is a b e = both_equal (nat_cmp a e.0) (nat_cmp b e.1) ∙ ap (λ t. t && is_eq (nat_cmp b e.1)) (at_is a e.0)
    ∙ ap (λ t. (e.0 == a) && t) (at_is b e.1)

equal_parts : (a b : Ordering) → ordering_then a b ≡ Equal → (a ≡ Equal) × (b ≡ Equal)
equal_parts Less b e = cc
equal_parts Equal b e = (refl, e)
equal_parts Greater b e = cc

-- pairs that compare equal are equal
pub pair_exact : (a b : ℕ × ℕ) → pair_cmp a b ≡ Equal → a ≡ b
pair_exact a b e =
    let p = equal_parts (nat_cmp a.0 b.0) (nat_cmp a.1 b.1) e in
    ap (λ z. (z, a.1)) (exact_unsigned a.0 b.0 p.0) ∙ ap (λ z. (b.0, z)) (exact_unsigned a.1 b.1 p.1)

pub same_pair : (a b : ℕ × ℕ) → is_eq (pair_cmp a b) ≡ true → a ≡ b
same_pair a b t = pair_exact a b (equal_tested (pair_cmp a b) t)
