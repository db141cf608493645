use Rattle.std.proofs.Common.{refl, None}
use Rattle.hotel_books.proofs.Names.{outcome_on, bars_to_check_in, words, issued_on}
use Rattle.hotel_core.proofs.OfCode.AnswerParts.{comes_now}
use Rattle.hotel_core.proofs.OfCode.Parts.{begun, then_found, at_now, stopped, barred, ends, bars_refuse, bars_pass}
use Rattle.hotel_model.specs.declared.command.Command.TheVariants as command
use Rattle.hotel_core.proofs.commands.guest_moves.check_in.Goals as goal

pub returns-in_err-day : goal.returns-in_err-day
unfolding outcome_on
returns-in_err-day g c =
    stopped c.from_residual.result c.from_residual.ensures.1 begun c.in_err-day.ensures.finds (λ k e. rw e refl)

pub returns-in_err-row : goal.returns-in_err-row
unfolding outcome_on
returns-in_err-row g c =
    stopped c.from_residual-in_err-row.result c.from_residual-in_err-row.ensures.1
    (then_found begun c.in_ok-day.ensures.finds) c.in_err-row.ensures (λ k e. rw (k.1, e) refl)

pub returns-in_err-stay : goal.returns-in_err-stay
unfolding outcome_on
returns-in_err-stay g c =
    stopped c.from_residual-in_err-stay.result c.from_residual-in_err-stay.ensures.1
    (then_found (then_found begun c.in_ok-day.ensures.finds) c.in_ok-row.ensures) c.in_err-stay.ensures
    (λ k e. rw (k.0.1, k.1, e) refl)

pub returns-in_err-may_check_in : goal.returns-in_err-may_check_in
unfolding outcome_on
returns-in_err-may_check_in g c =
    barred c.from_residual-in_err-may_check_in.result
    c.from_residual-in_err-may_check_in.ensures.1 c.in_err-may_check_in.ensures.1
    (then_found (then_found (then_found begun c.in_ok-day.ensures.finds) c.in_ok-row.ensures) c.in_ok-stay.ensures)
    (λ k. rw (k.0.0.1, k.0.1, k.1) (bars_refuse (bars_to_check_in c.in_ok-day.day c.in_ok-row.row c.in_ok-stay.stay) _ _
    _ c.in_err-may_check_in.ensures.0))

pub issue-requires-clause-there : goal.issue-requires-clause-there
issue-requires-clause-there g c =
    λ clean. (at_now (then_found (then_found (then_found begun c.in_ok-day.ensures.finds) c.in_ok-row.ensures)
    c.in_ok-stay.ensures) clean).0.1

pub issue-requires-clause-outcome : goal.issue-requires-clause-outcome
unfolding outcome_on
issue-requires-clause-outcome g c =
    comes_now (λ rs. issued_on rs (words 64 (g.R.Rng.stream c.args.source.now)) c.args.party c.args.room None)
    (then_found (then_found (then_found begun c.in_ok-day.ensures.finds) c.in_ok-row.ensures) c.in_ok-stay.ensures)
    (λ clean k. (
      words 64 (g.R.Rng.stream c.args.source.now),
      command.CheckIn c.args.party c.args.room,
      tt,
      rw (k.0.0.1, k.0.1, k.1) (bars_pass (bars_to_check_in c.in_ok-day.day c.in_ok-row.row c.in_ok-stay.stay) _ _
          c.in_ok-may_check_in.ensures),
    ))

pub returns : goal.returns
unfolding outcome_on
returns g c =
    ends g.met.B.Books.change_after
    (then_found (then_found (then_found begun c.in_ok-day.ensures.finds) c.in_ok-row.ensures) c.in_ok-stay.ensures)
    c.issue.ensures
    (λ k. rw (k.0.0.1, k.0.1, k.1)
    (bars_pass (bars_to_check_in c.in_ok-day.day c.in_ok-row.row c.in_ok-stay.stay) _ _ c.in_ok-may_check_in.ensures))
