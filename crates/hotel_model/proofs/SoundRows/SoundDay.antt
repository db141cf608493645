-- The day of a history's rows is in range, and is set before a kind is added.
use Rattle.std.proofs.Common.{ℕ, ◌≡◌, ◌+◌, true, Option, Some, None, refl, arith, length, ◌==◌, is_some, nat_lt}
use Rattle.std.proofs.Common.{option_map}
use Rattle.hotel_model.proofs.Names.{nat_tests, said_of, Begun, Kind, NextDay, History, start, ◌▷◌, day, kinds, rows_of}
use Rattle.hotel_model.proofs.Names.{Reached, is_day, day_in_range, day_before_kinds}
use Rattle.hotel_model.proofs.{OfTables.Grown.may_follow, OfTables.Tests.le_tested}
use Rattle.hotel_model.proofs.{Invariants.EventRanges.last_in_range, OfTables.RowTests.or_first}

next_by : (o : Option ℕ) → nat_lt (said_of o 0 (λ d. d)) 36524 ≡ true
    → said_of (option_map (λ d. d + 1) o) true is_day ≡ true
next_by (Some d) h = grind (arith, nat_tests)
next_by None h = refl

-- The day is in range.
pub day_fits : (h : History) → Reached h → day_in_range (rows_of h) ≡ true
day_fits (start t) ok = ok.meta_day
day_fits (h ▷ Begun first) ok = le_tested first 36524 (last_in_range h (Begun first) ok)
day_fits (h ▷ NextDay) ok = next_by (day h) (may_follow h NextDay ok).1
day_fits (h ▷ _) ok = day_fits h ok.0

still_set : (o : Option ℕ) → is_some o ≡ true → is_some (option_map (λ d. d + 1) o) ≡ true
still_set (Some d) e = refl
still_set None e = cc

-- The day is set before a kind is added.
pub day_before : (h : History) → Reached h → day_before_kinds (rows_of h) ≡ true
day_before (start t) ok = ok.meta_kinds
day_before (h ▷ Begun first) ok = refl
day_before (h ▷ NextDay) ok = or_first _ (length (kinds h) == 0) (still_set (day h) (may_follow h NextDay ok).0)
day_before (h ▷ Kind kind) ok = or_first (is_some (day h)) _ (may_follow h (Kind kind) ok).0
day_before (h ▷ _) ok = day_before h ok.0
