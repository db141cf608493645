use Rattle.std.proofs.Common.{arith, ◌≡◌, ℕ, ◌+◌, ◌≤◌, ◌<◌, ℤ, pos, w8, w16, ◌∙◌}
use Rattle.std.proofs.lemmas.Int.{to_z_pos}
use Rattle.jiff_core.specs.Calendar.{IsCivilDate, day_count}
use Rattle.hotel_nights.proofs.DayLemmas.{count_of, count-low, count-high, read_day-is}
use Rattle.hotel_nights.proofs.day.Day.read.Goals as goal

pub overflow_sub-result : goal.overflow_sub-result
overflow_sub-result c =
    let v = (rw (← c.to_plain.ensures) at c.in-Ok.ensures.value) in
    let g = c.days_since_min.ensures.value in
    let dt = c.to_plain.result in
    let y : dt.year ≡ pos c.in_ok-year.year = v.0 ∙ to_z_pos w16 c.in_ok-year.year (omega arith) in
    let k = count_of _ _ _ _ g in
    let k2 = rw y at k in
    omega (arith, count-low c.in_ok-year.year dt.month dt.day (omega arith) dt.day_in.0)

high : (y0 m d r : ℕ) (y : ℤ) → y ≡ pos y0 → y0 ≤ 2099 → IsCivilDate y m d → r + 366 ≡ day_count y m d → r < 4419069
high y0 m d r y e le civil k = let k2 = rw e at k in omega (arith, count-high y0 m d le (rw e at civil))

pub overflow_cast-result : goal.overflow_cast-result
overflow_cast-result c =
    let dt = c.to_plain.result in
    let y : dt.year ≡ pos c.in_ok-year.year =
    (rw (← c.to_plain.ensures) at c.in-Ok.ensures.value).0 ∙ to_z_pos w16 c.in_ok-year.year (omega arith) in
    let h = high c.in_ok-year.year dt.month dt.day c.days_since_min.result dt.year y (omega arith)
    (dt.year_in, dt.month_in, dt.day_in) (count_of _ _ _ _ c.days_since_min.ensures.value) in
    omega arith

pub invariant_of-result : goal.invariant_of-result
invariant_of-result c =
    let dt = c.to_plain.result in
    let y : dt.year ≡ pos c.in_ok-year.year =
    (rw (← c.to_plain.ensures) at c.in-Ok.ensures.value).0 ∙ to_z_pos w16 c.in_ok-year.year (omega arith) in
    let h = high c.in_ok-year.year dt.month dt.day c.days_since_min.result dt.year y (omega arith)
    (dt.year_in, dt.month_in, dt.day_in) (count_of _ _ _ _ c.days_since_min.ensures.value) in
    omega arith

pub returns : goal.returns
returns c =
    let dt = c.to_plain.result in
    let v = (rw (← c.to_plain.ensures) at c.in-Ok.ensures.value) in
    let y : dt.year ≡ pos c.in_ok-year.year = v.0 ∙ to_z_pos w16 c.in_ok-year.year (omega arith) in
    let m : dt.month ≡ c.in_ok-year.month = cc (v.1 ∙ to_z_pos w8 c.in_ok-year.month (omega arith)) in
    let d : dt.day ≡ c.in_ok-year.day = cc (v.2 ∙ to_z_pos w8 c.in_ok-year.day (omega arith)) in
    let count = count_of _ _ _ _ c.days_since_min.ensures.value in
    read_day-is c.args.text.now c.in_ok-year.year c.in_ok-year.month c.in_ok-year.day c.days_since_min.result
    c.in_ok-year.ensures (omega arith) (omega arith)
    (rw m at dt.month_in) (rw (y, m, d) at dt.day_in) (rw (y, m, d) at count)
