-- Days by their numbers.
use Rattle.std.proofs.Common.{ℕ, ◌≡◌, ◌≤◌, ◌<◌, Bool, true, false, Some, None, cond, refl, arith, nat_le}
use Rattle.std.proofs.lemmas.Bool.Decides.{nat_tests}
use Rattle.hotel_nights.specs.Days.{day_of_number}

is_day_at : (b : Bool) (n d : ℕ) → Some d ≡ cond b (Some n) None → (d ≡ n) × (b ≡ true)
is_day_at true n d e = (cc, refl)
is_day_at false n d e = cc

-- a day of a number has that number, in the calendar
pub is_day : (n d : ℕ) → Some d ≡ day_of_number n → (d ≡ n) × (n ≤ 36524)
is_day n d e = let p = is_day_at (nat_le n 36524) n d e in (p.0, grind (arith, nat_tests, p.1))

no_day_at : (b : Bool) (n : ℕ) → None ≡ cond b (Some n) None → b ≡ false
no_day_at true n e = cc
no_day_at false n e = refl

-- a number without a day is after the calendar
pub no_day : (n : ℕ) → None ≡ day_of_number n → 36524 < n
no_day n e = let p = no_day_at (nat_le n 36524) n e in grind (arith, nat_tests, p)
