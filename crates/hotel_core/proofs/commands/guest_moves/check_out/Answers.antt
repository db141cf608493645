use Rattle.std.proofs.Common.{◌≡◌, Some, None, refl, []}
use Rattle.hotel_books.proofs.Names.{room_of_state, outcome_on}
use Rattle.hotel_model.specs.declared.reply.Refusal.TheVariants as refusal
use Rattle.hotel_core.proofs.OfCode.Parts.{begun, then_found, stopped, halted, refuses, ends}
use Rattle.hotel_core.proofs.OfCode.AnswerParts.{answers}
use Rattle.hotel_model.specs.declared.command.Command.TheVariants as command
use Rattle.hotel_core.proofs.commands.guest_moves.check_out.Goals as goal

pub returns-in_err-today : goal.returns-in_err-today
unfolding outcome_on
returns-in_err-today g c = λ source.
    stopped c.from_residual.result c.from_residual.ensures.1 begun c.in_err-today.ensures.finds (λ k e. rw e refl)

pub returns-in_err-stay : goal.returns-in_err-stay
unfolding outcome_on
returns-in_err-stay g c = λ source.
    stopped c.from_residual-in_err-stay.result c.from_residual-in_err-stay.ensures.1
    (then_found begun c.in_ok-today.ensures.finds) c.in_err-stay.ensures (λ k e. rw (k.1, e) refl)

pub returns-in_default : goal.returns-in_default
unfolding outcome_on
returns-in_default g c = λ source.
    let home : room_of_state c.in_ok-stay.stay.state ≡ None = cc in
    refuses refusal.NotInHouse refl (then_found (then_found begun c.in_ok-today.ensures.finds) c.in_ok-stay.ensures)
    (λ k. rw (k.0.1, k.1, home) refl)

pub returns-in_err-row_of : goal.returns-in_err-row_of
unfolding outcome_on
returns-in_err-row_of g c = λ source.
    let home : room_of_state c.in_ok-stay.stay.state ≡ Some c.in-Some.room = cc in
    halted c.from_residual-in_err-row_of.result c.from_residual-in_err-row_of.ensures.1
    (then_found (then_found begun c.in_ok-today.ensures.finds) c.in_ok-stay.ensures) c.in_err-row_of.ensures
    (λ w k. (w.homes c.args.party c.in-Some.room (rw (k.1, home) refl)).0)

pub make-requires-clause-answered : goal.make-requires-clause-answered
unfolding outcome_on
make-requires-clause-answered g c =
    let home : room_of_state c.in_ok-stay.stay.state ≡ Some c.in-Some.room = cc in
    answers
    (then_found (then_found (then_found begun c.in_ok-today.ensures.finds) c.in_ok-stay.ensures) c.in_ok-row_of.ensures)
    (λ clean k. ([], command.CheckOut c.args.party, tt, rw (k.0.0.1, k.0.1, home) refl))

pub returns : goal.returns
unfolding outcome_on
returns g c = λ source.
    let home : room_of_state c.in_ok-stay.stay.state ≡ Some c.in-Some.room = cc in
    ends g.met.B.Books.change_after
    (then_found (then_found (then_found begun c.in_ok-today.ensures.finds) c.in_ok-stay.ensures)
    c.in_ok-row_of.ensures) (c.make.ensures.steps source) (λ k. rw (k.0.0.1, k.0.1, home) refl)
