use Rattle.std.proofs.Common.{◌≡◌, Some, None, refl}
use Rattle.hotel_books.proofs.Names.{room_of_state, outcome_on, words, issued_on}
use Rattle.hotel_core.proofs.OfCode.AnswerParts.{comes_now}
use Rattle.hotel_model.specs.declared.reply.Refusal.TheVariants as refusal
use Rattle.hotel_core.proofs.OfCode.Parts.{begun, then_found, at_now, stopped, halted, refuses, ends}
use Rattle.hotel_model.specs.declared.command.Command.TheVariants as command
use Rattle.hotel_core.proofs.commands.guest_moves.reissue.Goals as goal

pub returns-in_err-today : goal.returns-in_err-today
unfolding outcome_on
returns-in_err-today g c =
    stopped c.from_residual.result c.from_residual.ensures.1 begun c.in_err-today.ensures.finds (λ k e. rw e refl)

pub returns-in_err-stay : goal.returns-in_err-stay
unfolding outcome_on
returns-in_err-stay g c =
    stopped c.from_residual-in_err-stay.result c.from_residual-in_err-stay.ensures.1
    (then_found begun c.in_ok-today.ensures.finds) c.in_err-stay.ensures (λ k e. rw (k.1, e) refl)

pub returns-in_default : goal.returns-in_default
unfolding outcome_on
returns-in_default g c =
    let home : room_of_state c.in_ok-stay.stay.state ≡ None = cc in
    refuses refusal.NotInHouse refl (then_found (then_found begun c.in_ok-today.ensures.finds) c.in_ok-stay.ensures)
    (λ k. rw (k.0.1, k.1, home) refl)

pub returns-in_err-row : goal.returns-in_err-row
unfolding outcome_on
returns-in_err-row g c =
    let home : room_of_state c.in_ok-stay.stay.state ≡ Some c.in-Some.home = cc in
    halted c.from_residual-in_err-row.result c.from_residual-in_err-row.ensures.1
    (then_found (then_found begun c.in_ok-today.ensures.finds) c.in_ok-stay.ensures) c.in_err-row.ensures
    (λ w k. (w.homes c.args.party c.in-Some.home (rw (k.1, home) refl)).0)

pub issue-requires-clause-there : goal.issue-requires-clause-there
issue-requires-clause-there g c =
    λ clean. (at_now (then_found (then_found (then_found begun c.in_ok-today.ensures.finds) c.in_ok-stay.ensures)
    c.in_ok-row.ensures) clean).1

pub issue-requires-clause-outcome : goal.issue-requires-clause-outcome
unfolding outcome_on
issue-requires-clause-outcome g c =
    let home : room_of_state c.in_ok-stay.stay.state ≡ Some c.in-Some.home = cc in
    comes_now (λ rs. issued_on rs (words 64 (g.R.Rng.stream c.args.source.now)) c.args.party c.in-Some.home None)
    (then_found (then_found (then_found begun c.in_ok-today.ensures.finds) c.in_ok-stay.ensures) c.in_ok-row.ensures)
    (λ clean k.
    (words 64 (g.R.Rng.stream c.args.source.now), command.Reissue c.args.party, tt, rw (k.0.0.1, k.0.1, home) refl))

pub returns : goal.returns
unfolding outcome_on
returns g c =
    let home : room_of_state c.in_ok-stay.stay.state ≡ Some c.in-Some.home = cc in
    ends g.met.B.Books.change_after
    (then_found (then_found (then_found begun c.in_ok-today.ensures.finds) c.in_ok-stay.ensures)
    c.in_ok-row.ensures) c.issue.ensures (λ k. rw (k.0.0.1, k.0.1, home) refl)
