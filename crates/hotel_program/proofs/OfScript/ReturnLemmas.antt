-- A carriage return at the end of a line.
use Rattle.std.proofs.Common.{◌≡◌, ℕ, suc, ◌-◌, ◌<◌, List, [], ◌∷◌, length, take, get_or, arith, refl, ap}
use Rattle.std.proofs.lemmas.Bool.{ne_eqb}
use Rattle.hotel_program.specs.Script.Lines.{without_return}

pub cr-at-end : (line : List ℕ) → 0 < length line → get_or line (length line - 1) 0 ≡ 13
    → take (length line - 1) line ≡ without_return line
unfolding without_return
cr-at-end [] h e = absurd (omega arith)
cr-at-end (b ∷ []) h e = let k : b ≡ 13 = e in rw k refl
cr-at-end (b ∷ x ∷ rest) h e =
    let n : length (b ∷ x ∷ rest) - 1 ≡ suc (length (x ∷ rest) - 1) = omega arith in
    rw n (ap (λ (l : List ℕ). b ∷ l) (cr-at-end (x ∷ rest) (omega arith) (rw n at e)))

pub no-cr : (line : List ℕ) → (0 < length line → get_or line (length line - 1) 0 ≡ 13 → ⊥) → line ≡ without_return line
unfolding without_return
no-cr [] h = refl
no-cr (b ∷ []) h = rw (ne_eqb b 13 (h (omega arith))) refl
no-cr (b ∷ x ∷ rest) h =
    let n : length (b ∷ x ∷ rest) - 1 ≡ suc (length (x ∷ rest) - 1) = omega arith in
    let k : 0 < length (x ∷ rest) → get_or (x ∷ rest) (length (x ∷ rest) - 1) 0 ≡ 13 → ⊥ =
    λ p q. h (omega arith) (rw n q) in
    ap (λ (l : List ℕ). b ∷ l) (no-cr (x ∷ rest) k)
