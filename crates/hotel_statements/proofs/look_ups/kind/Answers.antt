use Rattle.std.proofs.Common.{◌∙◌, [], ◌∷◌}
use Rattle.sqlite_value.specs.declared.value.Value.TheVariants.{Text}
use Rattle.sqlite.specs.Order.{column}
use Rattle.sqlite.specs.Query.{Query}
use Rattle.sqlite.specs.Held.{state}
use Rattle.hotel_statements.specs.Values.{text_of}
use Rattle.hotel_statements.specs.Books.{IsKept}
use Rattle.hotel_statements.specs.LookUps.{Asks, AnswersFirst, HasCause}
use Rattle.hotel_statements.specs.Failures.{KindFails}
use Rattle.hotel_statements.specs.Texts as text
use Rattle.hotel_statements.proofs.Statements.Selects as selects
use Rattle.hotel_statements.proofs.Finds.{kind_finds}
use Rattle.hotel_statements.proofs.Unread.{cause_of}
use Rattle.hotel_statements.proofs.LookedInTurn.{of_statement, answers_so, fails_so}
use Rattle.hotel_statements.proofs.look_ups.kind.Goals as goal

pub look-requires-clause-asks : goal.look-requires-clause-asks
look-requires-clause-asks g c = (_, selects.select_kind)

pub returns : goal.returns
returns g c =
    let old = state g.S.Store c.args.conn.now in
    let new = state g.S.Store c.look.new.conn in
    let shown : IsKept new → (p : Query) → Asks text.select_kind p
    → AnswersFirst (λ v. text_of (column v 0)) p (Text c.args.kind.now ∷ []) old.now.trees c.in_ok-kind.kind =
    rw (c.text.ensures, c.as_bytes.ensures.same) at c.in_ok-kind.ensures.found in
    answers_so (of_statement c.look.ensures.books c.look.ensures.keeps
    c.in_ok-kind.ensures.unchanged c.look.ensures.crash)
    (λ kept. c.is_some.ensures
    ∙ kind_finds old.now.trees (c.requires.desk (c.look.ensures.keeps kept).0).tables c.args.kind.now c.in_ok-kind.kind
    (shown kept _ selects.select_kind))

pub returns-in_err-kind : goal.returns-in_err-kind
returns-in_err-kind g c =
    let old = state g.S.Store c.args.conn.now in
    let new = state g.S.Store c.look.new.conn in
    let cause : HasCause (KindFails c.args.kind.now) old new c.look.result =
    rw (c.text.ensures, c.as_bytes.ensures.same) at c.look.ensures.cause in
    fails_so c.from_residual.result c.from_residual.ensures.0
    c.look.ensures.books c.look.ensures.keeps c.look.ensures.crash
    (cause_of (KindFails c.args.kind.now) old new c.look.result c.from_residual.result _ c.in_err-kind.was
    c.from_residual.ensures cause)
