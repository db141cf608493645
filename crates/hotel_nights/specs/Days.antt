-- Days from 2000-01-01 to 2099-12-31: their texts and their numbers.
use Rattle.std.specs.Prelude.{ℕ, zero, suc, ◌+◌, ◌-◌, ◌&&◌, ◌==◌, Bool, List, ◌∷◌, ◌++◌, length, if◌then◌else◌, nat_le}
use Rattle.std.specs.Prelude.{nat_lt, Option, Some, None, option_and_then, slice_index, slice_range, pos}
use Rattle.jiff_core.specs.Calendar.{days_in_month, day_count}
use Rattle.keycard_rules.specs.{Numerals.numeral, Numerals.fixed_text, declared.note.TheConstants.LAST_DAY}

-- the day of a number of days after 2000-01-01, unless it is after 2099-12-31
abbrev pub day_of_number : ℕ → Option ℕ
day_of_number n = if nat_le n LAST_DAY then Some n else None

-- a year, a month and a day
pub record Ymd : Type 0 where
  pub year : ℕ
  pub month : ℕ
  pub day : ℕ

abbrev pub ymd : ℕ → ℕ → ℕ → Ymd
ymd y m d = record { year = y; month = m; day = d }

-- what an optional value leads to; with this word the readers are written as `do` blocks
infixl 10 ◌>>=◌
abbrev pub ◌>>=◌ : {A B : Type 0} → Option A → (A → Option B) → Option B
o >>= f = option_and_then f o

-- what `YYYY-MM-DD` writes: ten bytes, hyphens (byte 45) after the four digits of the year and the two of the month
abbrev pub read_ymd : List ℕ → Option Ymd
read_ymd text =
    if (length text == 10) && (slice_index text 4 == 45) && (slice_index text 7 == 45) then (do
      y ← numeral 10 4 (slice_range text 0 4)
      m ← numeral 10 2 (slice_range text 5 7)
      d ← numeral 10 2 (slice_range text 8 10)
      Some (ymd y m d))
    else None

-- the calendar has the date: a month from 1 to 12, and a day from 1 to as many as that month of that year has
abbrev pub is_date : Ymd → Bool
is_date a = nat_le 1 a.month && nat_le a.month 12 && nat_le 1 a.day && nat_le a.day (days_in_month (pos a.year) a.month)

-- from the year 2000 to the year 2099
abbrev pub is_in_range : Ymd → Bool
is_in_range a = nat_le 2000 a.year && nat_le a.year 2099

-- how many days the date is after 2000-01-01
abbrev pub number_of_date : Ymd → ℕ
number_of_date a = day_count (pos a.year) a.month a.day - day_count (pos 2000) 1 1

-- the day of a date, where the calendar has it and it is in range
abbrev pub day_of_date : Ymd → Option ℕ
day_of_date a = if is_in_range a && is_date a then Some (number_of_date a) else None

-- the day that a text writes, where it writes one
abbrev pub read_day : List ℕ → Option ℕ
read_day text = read_ymd text >>= day_of_date

-- the date after a date: the next of the month, or the first of the next month, or the first of the next year
abbrev pub next_date : Ymd → Ymd
next_date a =
    if nat_lt a.day (days_in_month (pos a.year) a.month) then ymd a.year a.month (a.day + 1)
    else if nat_lt a.month 12 then ymd a.year (a.month + 1) 1
    else ymd (a.year + 1) 1 1

-- the date of a day: so many days after 2000-01-01
unfoldable pub date_of : ℕ → Ymd
date_of zero = ymd 2000 1 1
date_of (suc n) = next_date (date_of n)

-- a date as `YYYY-MM-DD`
abbrev pub date_text : Ymd → List ℕ
date_text a = fixed_text 10 4 a.year ++ (45 ∷ (fixed_text 10 2 a.month ++ (45 ∷ fixed_text 10 2 a.day)))

-- the text of a day: that of its date
abbrev pub day_text : ℕ → List ℕ
day_text n = date_text (date_of n)
