use Rattle.std.proofs.Common.{◌∙◌, [], ◌∷◌}
use Rattle.sqlite.specs.Order.{column}
use Rattle.sqlite.specs.Query.{Query}
use Rattle.sqlite.specs.Held.{state}
use Rattle.hotel_statements.specs.Values.{int, option_of}
use Rattle.hotel_statements.specs.Books.{IsKept}
use Rattle.hotel_statements.specs.LookUps.{Asks, AnswersFirst, HasCause}
use Rattle.hotel_statements.specs.Failures.{DayFails}
use Rattle.hotel_statements.specs.Texts as text
use Rattle.hotel_statements.proofs.Statements.Selects as selects
use Rattle.hotel_statements.proofs.Finds.{day_finds}
use Rattle.hotel_statements.proofs.Unread.{cause_of}
use Rattle.hotel_statements.proofs.LookedInTurn.{of_statement, answers_so, fails_so}
use Rattle.hotel_statements.proofs.look_ups.day.Goals as goal

pub look-requires-clause-asks : goal.look-requires-clause-asks
look-requires-clause-asks g c = (_, selects.select_day)

pub returns : goal.returns
returns g c =
    let old = state g.S.Store c.args.conn.now in
    let new = state g.S.Store c.look.new.conn in
    let shown : IsKept new → (p : Query)
    → Asks text.select_day p → AnswersFirst (λ v. option_of (column v 0)) p (int 1 ∷ []) old.now.trees c.in_ok-day.day =
    rw (c.small.ensures) at c.in_ok-day.ensures.found in
    answers_so (of_statement c.look.ensures.books c.look.ensures.keeps
    c.in_ok-day.ensures.unchanged c.look.ensures.crash)
    (λ kept. c.unwrap_or.ensures ∙ day_finds old.now.trees
    (c.requires.desk (c.look.ensures.keeps kept).0).tables c.in_ok-day.day (shown kept _ selects.select_day))

pub returns-in_err-day : goal.returns-in_err-day
returns-in_err-day g c =
    let old = state g.S.Store c.args.conn.now in
    let new = state g.S.Store c.look.new.conn in
    let cause : HasCause DayFails old new c.look.result = rw (c.small.ensures) at c.look.ensures.cause in
    fails_so c.from_residual.result c.from_residual.ensures.0
    c.look.ensures.books c.look.ensures.keeps c.look.ensures.crash
    (cause_of DayFails old new c.look.result c.from_residual.result _ c.in_err-day.was c.from_residual.ensures cause)
