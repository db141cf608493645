use Rattle.std.proofs.Common.{◌∙◌, ap, ap₂, inr, []}
use Rattle.std.specs.Prelude.{length}
use Rattle.sqlite.specs.Held.{state}
use Rattle.sqlite.specs.Effect.{Database}
use Rattle.keycard_rules.specs.declared.numbers.TheConstants.{LAST_NUMBER}
use Rattle.hotel_model.specs.Refinement.Lookups.{number_after}
use Rattle.hotel_statements.specs.Tables.{rows_in}
use Rattle.hotel_statements.specs.Readable.{IsNumber, FirstColumnIs}
use Rattle.hotel_statements.specs.Texts as text
use Rattle.hotel_statements.proofs.Statements.Selects as selects
use Rattle.hotel_statements.proofs.Since.{fails_later, clean_before}
use Rattle.hotel_statements.proofs.Unread.{cause_passed}
use Rattle.hotel_statements.proofs.LookedInTurn.{of_look, then_answered, answers_so, then_fails}
use Rattle.hotel_statements.proofs.look_ups.next_numbers.Goals as goal

pub returns-in_err-card : goal.returns-in_err-card
returns-in_err-card g c =
    let old = state g.S.Store c.args.conn.now in
    let mid = state g.S.Store c.last_party.new.conn in
    let new = state g.S.Store c.last_card.new.conn in
    then_fails c.from_residual-in_err-card.result c.from_residual-in_err-card.ensures.0
    (of_look c.in_ok-party.ensures) c.last_card.ensures.books c.last_card.ensures.keeps c.last_card.ensures.crash
    (λ clean. cause_passed c.from_residual-in_err-card.result _ c.from_residual-in_err-card.ensures (λ other.
    inr (fails_later old mid new (clean_before mid new c.last_card.ensures.crash)
    (c.in_ok-party.ensures.unchanged tt) c.in_ok-party.ensures.crash
    text.select_last_card [] _ selects.select_last_card c.in_ok-party.ensures.books clean
    (FirstColumnIs (IsNumber LAST_NUMBER)) (c.in_err-card.ensures.cause clean other))))

pub returns : goal.returns
returns g c =
    answers_so (then_answered (of_look c.in_ok-party.ensures) (of_look c.in_ok-card.ensures))
    (λ kept.
    let then = c.in_ok-card.ensures.keeps kept in
    let first = c.in_ok-party.ensures.keeps then.0 in
    let party = c.number_after.ensures ∙ ap number_after (c.in_ok-party.ensures.found then.0) in
    let card = c.number_after-2.ensures ∙ ap number_after (c.in_ok-card.ensures.found kept
    ∙ ap (λ (d : Database). length (rows_in d.trees).cards) first.1) in
    ap₂ (λ p q. record { party = p; card = q }) party card)
