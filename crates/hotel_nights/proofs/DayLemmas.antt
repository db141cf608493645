-- The order of dates in range, and the dates of day numbers.
use Rattle.std.proofs.Common.{◌≡◌, ℕ, zero, suc, ◌+◌, ◌-◌, ◌<◌, ◌≤◌, ◌⊎◌, inl, inr, refl, sym, ◌∙◌, arith, ℤ, pos, ◌+ℤ◌}
use Rattle.std.proofs.Common.{true, false, Some, List, [], ◌∷◌, get_or, nat_le, nat_lt}
use Rattle.std.proofs.lemmas.Bool.{cases_Bool}
use Rattle.std.proofs.lemmas.Int.{by_lt_z}
use Rattle.std.proofs.lemmas.Bool.Decides.{nat_tests}
use Rattle.std.specs.Int.{IsInRange}
use Rattle.jiff_core.specs.Calendar.{IsCivilDate, days_in_month, day_count, days_from_civil, days_of_years}
use Rattle.jiff_core.specs.Calendar.{days_of_months}
use Rattle.jiff_core.proofs.CalendarLemmas.{days_from_civil-day_count, day_count-day_of_year, day_count-later_year}
use Rattle.jiff_core.proofs.CalendarLemmas.{day_count-lt_year, day_count-lt_month, day_count-day, day_count-next_month}
use Rattle.jiff_core.proofs.CalendarLemmas.{day_count-next_year, day_count-last_of_year, days_in_month_bounds}
use Rattle.jiff_core.proofs.SignedLemmas.{signed_arith}
use Rattle.keycard_rules.specs.Numerals.{numeral, fixed_text}
use Rattle.keycard_rules.proofs.NumeralLemmas.{numeral-fixed_text}
use Rattle.hotel_nights.specs.Days.{Ymd, ymd, read_ymd, read_day, date_text, day_text, is_date, is_in_range}
use Rattle.hotel_nights.specs.Days.{number_of_date, next_date, date_of}

-- 2000-01-01 and 2100-01-01 in day counts
pub first_count : day_count (pos 2000) 1 1 ≡ 4382910
unfolding day_count days_of_years days_of_months
first_count = refl

pub end_count : day_count (pos 2100) 1 1 ≡ 4419435
unfolding day_count days_of_years days_of_months
end_count = refl

-- a day count from the days since -9999-01-01
pub count_of : (y : ℤ) (m d r : ℕ) → days_from_civil y m d +ℤ pos 4371587 ≡ pos r → r + 366 ≡ day_count y m d
count_of y m d r h = omega (arith, signed_arith, days_from_civil-day_count y m d)

-- the first day of a year is not after a date of the year
year_start : (y : ℤ) (m d : ℕ) → 1 ≤ d → day_count y 1 1 ≤ day_count y m d
year_start y m d h = omega (arith, day_count-day_of_year y m d h)

lt-of : (a b : ℕ) → nat_lt a b ≡ true → a < b
lt-of a b h = grind (arith, nat_tests)

ge-of : (a b : ℕ) → nat_lt a b ≡ false → b ≤ a
ge-of a b h = grind (arith, nat_tests)

b_or : (b y : ℕ) → b ≤ y → (b ≡ y) ⊎ (b < y)
b_or b y h = elim (cases_Bool (nat_lt b y)) [
  | inl lt ↦ inr (lt-of b y lt)
  | inr ge ↦ inl (omega (arith, ge-of b y ge))
]

from_year : (b y m d : ℕ) → b ≤ y → 1 ≤ d → day_count (pos b) 1 1 ≤ day_count (pos y) m d
from_year b y m d le h = elim (b_or b y le) [
  | inl e ↦ rw e (year_start (pos y) m d h)
  | inr lt ↦
      let k = day_count-later_year (pos b) (pos y) (omega (arith, signed_arith)) (omega (arith, signed_arith)) in
      omega (arith, year_start (pos y) m d h)
]

-- dates of 2000 to 2099 have these day counts
pub count-low : (y m d : ℕ) → 2000 ≤ y → 1 ≤ d → 4382910 ≤ day_count (pos y) m d
count-low y m d low h = rw first_count at (from_year 2000 y m d low h)

pub count-high : (y m d : ℕ) → y ≤ 2099 → IsCivilDate (pos y) m d → day_count (pos y) m d < 4419435
count-high y m d high civil =
    rw end_count at (day_count-lt_year (pos y) m d (pos 2100) 1 1 civil (omega arith) (omega (arith, signed_arith)))

pub leb-of : {a b : ℕ} → a ≤ b → nat_le a b ≡ true
leb-of {a} {b} h = grind (arith, nat_tests)

pub is_date-true : (y m d : ℕ) → IsInRange 1 12 m → IsInRange 1 (days_in_month (pos y) m) d → is_date (ymd y m d) ≡ true
is_date-true y m d hm hd = rw (leb-of hm.0, leb-of hm.1, leb-of hd.0, leb-of hd.1) refl

pub is_in_range-true : (y m d : ℕ) → 2000 ≤ y → y ≤ 2099 → is_in_range (ymd y m d) ≡ true
is_in_range-true y m d lo hi = rw (leb-of lo, leb-of hi) refl

-- what holds of the date of a day number
pub record IsOnCalendar (n : ℕ) (a : Ymd) : Type 0 where
  pub year : 2000 ≤ a.year
  pub month : IsInRange 1 12 a.month
  pub day : IsInRange 1 (days_in_month (pos a.year) a.month) a.day
  pub count : day_count (pos a.year) a.month a.day ≡ 4382910 + n

december : (n y m d : ℕ) → m ≡ 12 → 2000 ≤ y → days_in_month (pos y) m ≤ d → d ≤ days_in_month (pos y) m
    → day_count (pos y) m d ≡ 4382910 + n
    → IsOnCalendar (suc n) (ymd (y + 1) 1 1)
december n y m d e low ge le count =
    let d31 : d ≡ 31 = omega (arith, rw e at ge, rw e at le) in
    let c2 : day_count (pos y) 12 31 ≡ 4382910 + n = rw (e, d31) at count in
    let k = day_count-last_of_year (pos y) in
    let k2 = day_count-next_year (pos y) (pos (y + 1)) (omega (arith, signed_arith)) (omega (arith, signed_arith)) in
    record {
      year = omega arith;
      month = (omega arith, omega arith);
      day = (omega arith, omega arith);
      count = omega arith;
    }

next-on : (n : ℕ) (a : Ymd) → IsOnCalendar n a → IsOnCalendar (suc n) (next_date a)
next-on n a h = elim (cases_Bool (nat_lt a.day (days_in_month (pos a.year) a.month))) [
  | inl more ↦
      let lt = lt-of _ _ more in
      let e = day_count-day (pos a.year) a.month a.day (a.day + 1) h.day.0 (omega arith) in
      rw more
      (record { year = h.year; month = h.month; day = (omega arith, omega arith); count = omega (arith, h.count) })
  | inr last ↦
      let ge = ge-of _ _ last in
      let e = day_count-day (pos a.year) a.month a.day 1 h.day.0 (omega arith) in
      elim (cases_Bool (nat_lt a.month 12)) [
        | inl more ↦
            let lt = lt-of _ _ more in
            let k = day_count-next_month (pos a.year) a.month h.month.0 in
            rw (last, more) (record {
              year = h.year;
              month = (omega arith, omega arith);
              day = (omega arith, omega (arith, (days_in_month_bounds (pos a.year) (a.month + 1)).1));
              count = omega (arith, h.count, h.day.1);
            })
        | inr dec ↦
            let ge12 = ge-of _ _ dec in
            rw (last, dec) (december n a.year a.month a.day (omega (arith, h.month.1)) h.year ge h.day.1 h.count)
      ]
]

pub date_of-on : (n : ℕ) → IsOnCalendar n (date_of n)
unfolding date_of
date_of-on zero = record {
  year = omega arith;
  month = (omega arith, omega arith);
  day = (omega arith, omega arith);
  count = first_count;
}
date_of-on (suc n) = next-on n (date_of n) (date_of-on n)

year-high : (n : ℕ) (a : Ymd) → n ≤ 36524 → IsOnCalendar n a → a.year ≤ 2099
year-high n a le on = elim (cases_Bool (nat_lt 2099 a.year)) [
  | inl gt ↦
      let g = lt-of _ _ gt in let k = rw end_count at (from_year 2100 a.year a.month a.day (omega arith) on.day.0) in
      absurd (omega (arith, on.count))
  | inr le2 ↦ ge-of _ _ le2
]

same_in_year : (y : ℤ) (m d m₂ d₂ : ℕ)
    → IsCivilDate y m d → IsCivilDate y m₂ d₂ → day_count y m d ≡ day_count y m₂ d₂ → (m ≡ m₂) × (d ≡ d₂)
same_in_year y m d m₂ d₂ c1 c2 e = elim (cases_Bool (nat_lt m m₂)) [
  | inl lt ↦ let k = day_count-lt_month y m d m₂ d₂ c1 c2.2.0 (lt-of _ _ lt) in absurd (omega arith)
  | inr ge ↦ elim (cases_Bool (nat_lt m₂ m)) [
    | inl lt ↦ let k = day_count-lt_month y m₂ d₂ m d c2 c1.2.0 (lt-of _ _ lt) in absurd (omega arith)
    | inr ge2 ↦
        let me : m ≡ m₂ = omega (arith, ge-of m m₂ ge, ge-of m₂ m ge2) in
        let e2 : day_count y m₂ d ≡ day_count y m₂ d₂ = rw me at e in
        let k = day_count-day y m₂ d d₂ c1.2.0 c2.2.0 in
        (me, omega arith)
  ]
]

-- dates of one day count are the same
pub same_date : (y : ℤ) (m d : ℕ) (n : ℕ) → n ≤ 36524 → IsCivilDate y m d → day_count y m d ≡ 4382910 + n
    → (y ≡ pos (date_of n).year) × (m ≡ (date_of n).month) × (d ≡ (date_of n).day)
same_date y m d n le civil count =
    let a = date_of n in
    let on = date_of-on n in
    let high : a.year ≤ 2099 = year-high n a le on in
    let civil2 : IsCivilDate (pos a.year) a.month a.day =
    ((omega (arith, signed_arith), omega (arith, signed_arith)), on.month, on.day) in
    by_lt_z y (pos a.year)
    (λ lt. let k = day_count-lt_year y m d (pos a.year) a.month a.day civil on.day.0 lt in
    absurd (omega (arith, on.count)))
    (λ ge. by_lt_z (pos a.year) y
    (λ lt. let k = day_count-lt_year (pos a.year) a.month a.day y m d civil2 civil.2.0 lt in
    absurd (omega (arith, on.count)))
    (λ le2.
    let e : y ≡ pos a.year = omega (arith, signed_arith) in
    let same = same_in_year (pos a.year) m d a.month a.day (rw e at civil) civil2 (rw e at count ∙ sym on.count) in
    (e, same.0, same.1)))

-- what a text with these parts reads as
pub read_day-is : (text : List ℕ) (y m d r : ℕ) → Some (ymd y m d) ≡ read_ymd text → 2000 ≤ y → y ≤ 2099
    → IsInRange 1 12 m → IsInRange 1 (days_in_month (pos y) m) d
    → r + 366 ≡ day_count (pos y) m d → Some (r - 4382544) ≡ read_day text
read_day-is text y m d r e lo hi hm hd k =
    let n : r - 4382544 ≡ number_of_date (ymd y m d) = rw first_count (omega arith) in
    rw (← e, is_in_range-true y m d lo hi, is_date-true y m d hm hd, n) refl

-- a date is read back from its text
pub read_ymd-text : (y m d : ℕ) → y < 10000 → m < 100 → d < 100 → read_ymd (date_text (ymd y m d)) ≡ Some (ymd y m d)
unfolding fixed_text
read_ymd-text y m d hy hm hd =
    let ry : numeral 10 4 (fixed_text 10 4 y) ≡ Some y =
    numeral-fixed_text 10 4 y (omega arith) (omega arith) (omega arith) hy in
    let rm : numeral 10 2 (fixed_text 10 2 m) ≡ Some m =
    numeral-fixed_text 10 2 m (omega arith) (omega arith) (omega arith) hm in
    let rd : numeral 10 2 (fixed_text 10 2 d) ≡ Some d =
    numeral-fixed_text 10 2 d (omega arith) (omega arith) (omega arith) hd in
    rw (ry, rm, rd) refl

pub read_day-day_text : (n : ℕ) → n ≤ 36524 → read_day (day_text n) ≡ Some n
read_day-day_text n le =
    let a = date_of n in
    let on = date_of-on n in
    let high = year-high n a le on in
    let bound = (days_in_month_bounds (pos a.year) a.month).0 in
    let read = read_ymd-text a.year a.month a.day (omega arith) (omega (arith, on.month.1)) (omega (arith, on.day.1)) in
    let number : number_of_date (ymd a.year a.month a.day) ≡ n = rw (on.count, first_count) (omega arith) in
    rw (
      read,
      is_in_range-true a.year a.month a.day on.year high,
      is_date-true a.year a.month a.day on.month on.day,
      number,
    ) refl

-- ten bytes that are the digits of the date
pub day_text-is : (n y m d : ℕ) (f t u : List ℕ) → f ≡ fixed_text 10 4 y → t ≡ fixed_text 10 2 m → u ≡ fixed_text 10 2 d
    → y ≡ (date_of n).year → m ≡ (date_of n).month → d ≡ (date_of n).day
    → get_or f 0 0 ∷ get_or f 1 0 ∷ get_or f 2 0 ∷ get_or f 3 0 ∷ 45 ∷ get_or t 0 0 ∷ get_or t 1 0 ∷ 45 ∷ get_or u 0
    0 ∷ get_or u 1 0 ∷ [] ≡ day_text n
unfolding fixed_text
day_text-is n y m d f t u ef et eu ey em ed = rw (ef, et, eu, ey, em, ed) refl
