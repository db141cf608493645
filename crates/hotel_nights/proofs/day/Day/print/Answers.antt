use Rattle.std.proofs.Common.{arith, ◌≡◌, ℕ, sym, subst, List, FitsSigned, w16, Some}
use Rattle.jiff_core.proofs.SignedLemmas.{signed_arith}
use Rattle.std.proofs.lemmas.Int.{to_z-of_z}
use Rattle.hotel_nights.specs.Days.{read_day}
use Rattle.hotel_nights.proofs.DayLemmas.{count_of, same_date, read_day-day_text, day_text-is}
use Rattle.hotel_nights.proofs.day.Day.print.Goals as goal

pub returns-clause-text : goal.returns-clause-text
returns-clause-text c =
    let dt = c.from_days_since_min-date.result in
    let k = count_of dt.year dt.month dt.day _ c.from_days_since_min-date.ensures in
    let same = same_date dt.year dt.month dt.day c.self.inside.number c.self.invariant
    (dt.year_in, dt.month_in, dt.day_in) (omega (arith, k)) in
    let fits : FitsSigned w16 dt.year = omega (arith, signed_arith, dt.year_in) in
    let y = rw (to_z-of_z w16 dt.year fits, same.0) at c.unsigned_abs.ensures.value in
    rw (← c.self.view_is)
    (day_text-is c.self.inside.number c.unsigned_abs.result dt.month dt.day c.four_digits.result
    c.two_digits.result c.two_digits-2.result
    c.four_digits.ensures c.two_digits.ensures c.two_digits-2.ensures y same.1 same.2)

pub returns-clause-reads_back : goal.returns-clause-reads_back
returns-clause-reads_back c =
    subst (λ (t : List ℕ). read_day t ≡ Some c.args.self.now) (sym (returns-clause-text c))
    (read_day-day_text c.args.self.now (omega (arith, c.self.invariant, c.self.view_is)))
