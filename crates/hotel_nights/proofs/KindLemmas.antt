-- The bytes of a kind's code, with zeros after them.
use Rattle.std.proofs.Common.{◌≡◌, ℕ, ◌-◌, ◌≤◌, List, ◌++◌, length, take, drop, replicate, arith, ◌∙◌, true}
use Rattle.std.proofs.Math.Seq.{drop-append_seam, take-append_seam}
use Rattle.std.proofs.lemmas.List.{drop-replicate}
use Rattle.std.proofs.lemmas.Grind.{common_steps}
use Rattle.hotel_nights.specs.Kinds.{is_kind}

abbrev pub IsPadded : List ℕ → ℕ → Type 0
IsPadded bytes n = (length bytes ≡ 8) × (n ≤ 8) × (drop n bytes ≡ replicate (8 - n) 0) × (is_kind (take n bytes) ≡ true)

pub padded : (text : List ℕ) → length text ≤ 8 → is_kind text ≡ true
    → IsPadded (text ++ drop (length text) (replicate 8 0)) (length text)
padded text h k = (
  grind (arith, common_steps),
  h,
  drop-append_seam text (drop (length text) (replicate 8 0)) ∙ drop-replicate (length text) 8 0,
  rw (take-append_seam text (drop (length text) (replicate 8 0))) k,
)
