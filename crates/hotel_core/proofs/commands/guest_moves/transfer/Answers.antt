use Rattle.std.proofs.Common.{◌≡◌, Some, None, refl}
use Rattle.hotel_books.proofs.Names.{room_of_state, outcome_on, bars_to_transfer, words}
use Rattle.hotel_books.proofs.Names.{issued_on}
use Rattle.hotel_core.proofs.OfCode.AnswerParts.{comes_now}
use Rattle.hotel_model.specs.declared.reply.Refusal.TheVariants as refusal
use Rattle.hotel_core.proofs.OfCode.Parts.{begun, then_found, at_now, stopped, refuses, barred, ends, bars_refuse}
use Rattle.hotel_core.proofs.OfCode.Parts.{bars_pass}
use Rattle.hotel_model.specs.declared.command.Command.TheVariants as command
use Rattle.hotel_core.proofs.commands.guest_moves.transfer.Goals as goal

pub returns-in_err-today : goal.returns-in_err-today
unfolding outcome_on
returns-in_err-today g c =
    stopped c.from_residual.result c.from_residual.ensures.1 begun c.in_err-today.ensures.finds (λ k e. rw e refl)

pub returns-in_err-row : goal.returns-in_err-row
unfolding outcome_on
returns-in_err-row g c =
    stopped c.from_residual-in_err-row.result c.from_residual-in_err-row.ensures.1
    (then_found begun c.in_ok-today.ensures.finds) c.in_err-row.ensures (λ k e. rw (k.1, e) refl)

pub returns-in_err-stay : goal.returns-in_err-stay
unfolding outcome_on
returns-in_err-stay g c =
    stopped c.from_residual-in_err-stay.result c.from_residual-in_err-stay.ensures.1
    (then_found (then_found begun c.in_ok-today.ensures.finds) c.in_ok-row.ensures) c.in_err-stay.ensures
    (λ k e. rw (k.0.1, k.1, e) refl)

pub returns-in_default : goal.returns-in_default
unfolding outcome_on
returns-in_default g c =
    let home : room_of_state c.in_ok-stay.stay.state ≡ None = cc in
    refuses refusal.NotInHouse refl
    (then_found (then_found (then_found begun c.in_ok-today.ensures.finds) c.in_ok-row.ensures) c.in_ok-stay.ensures)
    (λ k. rw (k.0.0.1, k.0.1, k.1, home) refl)

pub returns-in_err-may_transfer : goal.returns-in_err-may_transfer
unfolding outcome_on
returns-in_err-may_transfer g c =
    let home : room_of_state c.in_ok-stay.stay.state ≡ Some c.in-Some.home = cc in
    barred c.from_residual-in_err-may_transfer.result
    c.from_residual-in_err-may_transfer.ensures.1 c.in_err-may_transfer.ensures.1
    (then_found (then_found (then_found begun c.in_ok-today.ensures.finds) c.in_ok-row.ensures) c.in_ok-stay.ensures)
    (λ k. rw (k.0.0.1, k.0.1, k.1, home) (bars_refuse (bars_to_transfer c.args.party c.in_ok-row.row c.in_ok-stay.stay)
    _ _ _ c.in_err-may_transfer.ensures.0))

pub issue-requires-clause-there : goal.issue-requires-clause-there
issue-requires-clause-there g c =
    λ clean. (at_now (then_found (then_found (then_found begun c.in_ok-today.ensures.finds) c.in_ok-row.ensures)
    c.in_ok-stay.ensures) clean).0.1

pub issue-requires-clause-outcome : goal.issue-requires-clause-outcome
unfolding outcome_on
issue-requires-clause-outcome g c =
    let home : room_of_state c.in_ok-stay.stay.state ≡ Some c.in-Some.home = cc in
    comes_now (λ rs. issued_on rs (words 64 (g.R.Rng.stream c.args.source.now))
    c.args.party c.args.room (Some c.in-Some.home))
    (then_found (then_found (then_found begun c.in_ok-today.ensures.finds) c.in_ok-row.ensures) c.in_ok-stay.ensures)
    (λ clean k. (
      words 64 (g.R.Rng.stream c.args.source.now),
      command.Transfer c.args.party c.args.room,
      tt,
      rw (k.0.0.1, k.0.1, k.1, home) (bars_pass (bars_to_transfer c.args.party c.in_ok-row.row c.in_ok-stay.stay) _ _
          c.in_ok-may_transfer.ensures),
    ))

pub returns : goal.returns
unfolding outcome_on
returns g c =
    let home : room_of_state c.in_ok-stay.stay.state ≡ Some c.in-Some.home = cc in
    ends g.met.B.Books.change_after
    (then_found (then_found (then_found begun c.in_ok-today.ensures.finds) c.in_ok-row.ensures)
    c.in_ok-stay.ensures) c.issue.ensures
    (λ k. rw (k.0.0.1, k.0.1, k.1, home)
    (bars_pass (bars_to_transfer c.args.party c.in_ok-row.row c.in_ok-stay.stay) _ _ c.in_ok-may_transfer.ensures))
