-- Tests of columns that fail.
use Rattle.std.proofs.Common.{◌≡◌, ◌&&◌, Bool, true, false, Result, Ok, Err, IfErr, ap, refl}
use Rattle.keycard_rules.specs.declared.issued.LookFault.{LookFault}
use Rattle.keycard_rules.specs.declared.issued.LookFault.TheVariants.{Store}

-- the last of some tests fails
pub last_fails : (a b : Bool) → b ≡ false → (a && b) ≡ false
last_fails true b e = e
last_fails false b e = refl

-- the second of three tests fails
pub amid_fails : (a b c : Bool) → b ≡ false → (a && b && c) ≡ false
amid_fails a b c e = ap (λ z. z && c) (last_fails a b e)

-- what is so holds where an error came
pub told_anyway : {A P : Type 0} (r : Result A LookFault) → P → IfErr r (λ why. why ≡ Store → P)
told_anyway (Ok a) p = tt
told_anyway (Err why) p = λ is_store. p
