-- What was read of a file is a prefix of it.
use Rattle.std.proofs.Common.{◌≡◌, ◌∙◌, ◌≤◌, ℕ, List, length, take, Option, Some, None, sym, ap}
use Rattle.std.proofs.lemmas.List.{take-append-le}
use Rattle.std.specs.Prelude.{IfSome}
use Rattle.hotel_streams.specs.Reads.{IsPrefixUpTo}

-- the first bytes of a prefix are those of the whole
pub seed_taken : (known : Option (List ℕ)) (bytes seed : List ℕ) → IfSome known (IsPrefixUpTo 31 bytes)
    → 32 ≤ length bytes → seed ≡ take 32 bytes → IfSome known (λ input. seed ≡ take 32 input)
seed_taken None bytes seed prefix enough e = tt
seed_taken (Some input) bytes seed prefix enough e =
    e ∙ sym (take-append-le 32 bytes prefix.0 enough) ∙ sym (ap (take 32) prefix.1)
