-- A moment is read back from its text.
use Rattle.std.proofs.Common.{◌≡◌, ℕ, ◌+◌, ◌*◌, ◌/◌, ◌%◌, ◌≤◌, List, [], ◌∷◌, get_or, arith, refl, Some, nat_le, true}
use Rattle.keycard_rules.specs.Numerals.{numeral, fixed_text}
use Rattle.keycard_rules.proofs.NumeralLemmas.{numeral-fixed_text}
use Rattle.hotel_nights.specs.{Days.day_text, Moments.read_time, Moments.read_moment, Moments.time_text}
use Rattle.hotel_nights.specs.{Moments.moment_text}
use Rattle.hotel_nights.proofs.DayLemmas.{read_day-day_text, leb-of}

whole : (s : ℕ) → s / 3600 * 3600 + s / 60 % 60 * 60 + s % 60 ≡ s
whole s = omega arith

pub read_time-text : (s : ℕ) → s ≤ 86399 → read_time (time_text s) ≡ Some s
unfolding fixed_text
read_time-text s h =
    let rh : numeral 10 2 (fixed_text 10 2 (s / 3600)) ≡ Some (s / 3600) =
    numeral-fixed_text 10 2 (s / 3600) (omega arith) (omega arith) (omega arith) (omega arith) in
    let rm : numeral 10 2 (fixed_text 10 2 (s / 60 % 60)) ≡ Some (s / 60 % 60) =
    numeral-fixed_text 10 2 (s / 60 % 60) (omega arith) (omega arith) (omega arith) (omega arith) in
    let rs : numeral 10 2 (fixed_text 10 2 (s % 60)) ≡ Some (s % 60) =
    numeral-fixed_text 10 2 (s % 60) (omega arith) (omega arith) (omega arith) (omega arith) in
    let lh : nat_le (s / 3600) 23 ≡ true = leb-of (omega arith) in
    let lm : nat_le (s / 60 % 60) 59 ≡ true = leb-of (omega arith) in
    let ls : nat_le (s % 60) 59 ≡ true = leb-of (omega arith) in
    rw (rh, rm, rs, lh, lm, ls, whole s) refl

pub read_moment-text : (d s : ℕ) → d ≤ 36524 → s ≤ 86399 → read_moment (moment_text (d, s)) ≡ Some (d, s)
unfolding fixed_text
read_moment-text d s hd hs = rw (read_day-day_text d hd, read_time-text s hs) refl

pub moment_text-is : (d s : ℕ) (a t : List ℕ) → a ≡ day_text d → t ≡ time_text s
    → get_or a 0 0 ∷ get_or a 1 0 ∷ get_or a 2 0 ∷ get_or a 3 0 ∷ get_or a 4 0 ∷ get_or a 5 0 ∷ get_or a 6 0 ∷ get_or a
    7 0 ∷ get_or a 8 0 ∷ get_or a 9 0 ∷ 84
    ∷ get_or t 0 0 ∷ get_or t 1 0 ∷ get_or t 2 0 ∷ get_or t 3 0 ∷ get_or t 4 0 ∷ get_or t 5 0 ∷ get_or t 6 0
    ∷ get_or t 7 0 ∷ [] ≡ moment_text (d, s)
unfolding fixed_text
moment_text-is d s a t ea et = rw (ea, et) refl
