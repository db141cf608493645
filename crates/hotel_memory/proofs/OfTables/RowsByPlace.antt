-- Rows whose places say their numbers.
use Rattle.std.proofs.Common.{ℕ, zero, suc, ◌≡◌, ◌+◌, ◌-◌, ◌≤◌, cond, Some, List, [], ◌∷◌, ◌++◌, length, refl, ap, sym}
use Rattle.std.proofs.Common.{◌∙◌, arith, slice_get, nat_cmp}
use Rattle.hotel_books.proofs.Names.{enumerate_from, match_ordering, is_at, insert_entry, at_number, values_of}
use Rattle.hotel_model.proofs.{OfTables.Tests.not_higher, OfTables.TableKeys.at_is, OfTables.TableKeys.is_at_self}
use Rattle.hotel_model.proofs.{OfTables.Counting.greater_is}

-- the row of a number is found at its place
pub at_place : {X : Type 0} (n : ℕ) (xs : List X) (q : ℕ)
    → n ≤ q → at_number (enumerate_from n xs) q ≡ slice_get xs (q - n)
at_place n [] q h = refl
at_place {X} n (x ∷ xs) q h = by (q - n) refl (λ later. at_place (n + 1) xs q later)
  where
    by : (k : ℕ) → q - n ≡ k → (n + 1 ≤ q → at_number (enumerate_from (n + 1) xs) q ≡ slice_get xs (q - (n + 1)))
        → at_number (enumerate_from n (x ∷ xs)) q ≡ slice_get (x ∷ xs) k
    by zero e rest =
        let same : q ≡ n = omega (arith, h, e) in
        ap (λ z. cond (is_at (nat_cmp z) n) (Some x) (at_number (enumerate_from (n + 1) xs) z)) same
        ∙ ap (λ b. cond b (Some x) (at_number (enumerate_from (n + 1) xs) n)) (is_at_self n)
    by (suc k) e rest =
        let far : q - (n + 1) ≡ k = omega (arith, e) in
        ap (λ b. cond b (Some x) (at_number (enumerate_from (n + 1) xs) q))
        (at_is q n ∙ not_higher n q (omega (arith, e)))
        ∙ rest (omega (arith, e)) ∙ ap (slice_get xs) far

-- the row of the next number comes last
pub put_last : {X : Type 0} (n : ℕ) (xs : List X) (k : ℕ) (v : X)
    → k ≡ n + length xs → enumerate_from n (xs ++ v ∷ []) ≡ insert_entry nat_cmp (enumerate_from n xs) k v
put_last n [] k v e = let same : n ≡ k = omega (arith, e) in ap (λ z. (z, v) ∷ []) same
put_last n (x ∷ xs) k v e =
    ap (λ zs. (n, x) ∷ zs) (put_last (n + 1) xs k v (omega (arith, e)))
    ∙ sym (ap (λ o. match_ordering o ((k, v) ∷ (n, x) ∷ enumerate_from (n + 1) xs) ((n, v) ∷ enumerate_from (n + 1) xs)
    ((n, x) ∷ insert_entry nat_cmp (enumerate_from (n + 1) xs) k v)) (greater_is k n (omega (arith, e))))

-- the values are the list's items
pub values_by_place : {X : Type 0} (n : ℕ) (xs : List X) → values_of (enumerate_from n xs) ≡ xs
values_by_place n [] = refl
values_by_place n (x ∷ xs) = ap (λ vs. x ∷ vs) (values_by_place (n + 1) xs)
