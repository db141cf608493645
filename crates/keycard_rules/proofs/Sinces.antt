-- What each call says of the state that it leaves, over no call and over two.
use Rattle.std.proofs.Common.{ℕ, ◌≡◌, ◌+◌, ◌-◌, ◌^◌, min, arith, ◌≤◌, nat_le, Bool, true, false, refl, Option, Some}
use Rattle.std.proofs.Common.{None}
use Rattle.std.proofs.Common.{◌⊎◌, inl, inr}
use Rattle.std.specs.Prelude.{IfSome}
use Rattle.std.proofs.lemmas.Bool.Decides.{nat_tests}
use Rattle.keycard_rules.specs.{declared.issued.LookFault.LookFault, declared.kept.Kept.Ghosts as KeptOf, Since.Since}
use Rattle.keycard_rules.specs.declared.issued.LookFault.TheVariants as look
use Rattle.keycard_rules.specs.{Leaves.StaysClean, Rise.Counts, Rise.HasRisen, Rise.NoFewer, Rise.counted_on}
use Rattle.keycard_rules.specs.{Rise.one_of}

-- nothing has happened
pub since_refl : {S : Type 0} {K : KeptOf S} {a : S} → Since K a a
since_refl = record { was_clean = λ h. h; was_honest = λ h. h; counted = λ why. omega arith; disk = omega arith }

-- one thing has happened, and then another
pub since_then : {S : Type 0} {K : KeptOf S} {a b d : S} → Since K a b → Since K b d → Since K a d
since_then first second = record {
  was_clean = λ h. first.was_clean (second.was_clean h);
  was_honest = λ h. first.was_honest (second.was_honest h);
  counted = λ why. omega (arith, first.counted why, second.counted why);
  disk = omega (arith, first.disk, second.disk);
}

pub stays_refl : {S : Type 0} (K : KeptOf S) (a : S) → StaysClean K a a
stays_refl K a = λ clean. inl clean

-- a count that rose before, or will rise, has risen
pub risen_before : (a b c : ℕ) → HasRisen a b → b ≤ c → HasRisen a c
risen_before a b c (inl h) k = inl (omega (arith, h, k))
risen_before a b c (inr h) k = inr (omega (arith, h, k))

pub risen_later : (a b c : ℕ) → a ≤ b → HasRisen b c → HasRisen a c
risen_later a b c h (inl r) = inl (omega (arith, h, r))
risen_later a b c h (inr r) = inr r

-- what a call reported was counted, where each failure was
risen_once : (a b : ℕ) → b ≡ counted_on 1 a → HasRisen a b
risen_once a b p = by (nat_le (a + 1) (2 ^ 64 - 1)) refl
  where
    is : b ≡ min (a + 1) (2 ^ 64 - 1)
    is = p

    by : (within : Bool) → nat_le (a + 1) (2 ^ 64 - 1) ≡ within → HasRisen a b
    by true k = inl (grind (arith, nat_tests, k, is))
    by false k = inr (grind (arith, nat_tests, k, is))

pub counts_rise : (told : Option LookFault) (old new : LookFault → ℕ) → Counts (λ why. one_of why told) old new
    → IfSome told (λ why. HasRisen (old why) (new why))
counts_rise None old new counted = tt
counts_rise (Some look.Memory) old new counted = risen_once (old look.Memory) (new look.Memory) (counted look.Memory)
counts_rise (Some look.Store) old new counted = risen_once (old look.Store) (new look.Store) (counted look.Store)

-- so of calls before it that counted no fewer
pub rises_later : (told : Option LookFault) (old mid new : LookFault → ℕ) → NoFewer old mid
    → IfSome told (λ why. HasRisen (mid why) (new why)) → IfSome told (λ why. HasRisen (old why) (new why))
rises_later None old mid new fewer rose = tt
rises_later (Some why) old mid new fewer rose = risen_later (old why) (mid why) (new why) (fewer why) rose

-- what stayed clean before a call stays so after it
pub stays_then : {S : Type 0} {K : KeptOf S} {a b d : S} → StaysClean K a b → Since K b d → StaysClean K b d
    → Since K a b → StaysClean K a d
stays_then {K = K} {a = a} {b = b} {d = d} first later second before = λ clean. by (first clean)
  where
    on : (K.is_clean d ⊎ HasRisen (K.disk_failures b) (K.disk_failures d))
        → K.is_clean d ⊎ HasRisen (K.disk_failures a) (K.disk_failures d)
    on (inl kept) = inl kept
    on (inr risen) = inr (risen_later (K.disk_failures a) (K.disk_failures b) (K.disk_failures d) before.disk risen)

    by : (K.is_clean b ⊎ HasRisen (K.disk_failures a) (K.disk_failures b))
        → K.is_clean d ⊎ HasRisen (K.disk_failures a) (K.disk_failures d)
    by (inl kept) = on (second kept)
    by (inr risen) = inr (risen_before (K.disk_failures a) (K.disk_failures b) (K.disk_failures d) risen later.disk)
