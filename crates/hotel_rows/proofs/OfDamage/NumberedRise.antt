-- Numbers that count up are in order.
use Rattle.std.proofs.Common.{ℕ, ◌≡◌, ◌+◌, ◌<◌, ◌==◌, true, List, [], ◌∷◌, nat_cmp, refl, arith}
use Rattle.std.specs.Ordering.{is_lt}
use Rattle.std.proofs.lemmas.Bool.Decides.{nat_tests}
use Rattle.hotel_model.specs.SoundRooms.{are_in_order, count_up}
use Rattle.hotel_model.proofs.OfTables.RowTests.{both}
use Rattle.hotel_model.proofs.OfTables.Tests.{and_true, eq_from}

pub counts_rise : (n : ℕ) (ks : List ℕ) → count_up n ks ≡ true → are_in_order nat_cmp ks ≡ true
counts_rise n [] all = refl
counts_rise n (a ∷ []) all = refl
counts_rise n (a ∷ b ∷ ks) all =
    let p = and_true (a == n) (count_up (n + 1) (b ∷ ks)) all in
    let q = and_true (b == n + 1) (count_up (n + 1 + 1) ks) p.1 in
    let first : a ≡ n = eq_from a n p.0 in
    let second : b ≡ n + 1 = eq_from b (n + 1) q.0 in
    let low : a < b = omega (arith, first, second) in
    let less : is_lt (nat_cmp a b) ≡ true = grind (arith, nat_tests) in
    both (is_lt (nat_cmp a b)) (are_in_order nat_cmp (b ∷ ks)) less (counts_rise (n + 1) (b ∷ ks) p.1)
