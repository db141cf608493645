use Rattle.std.proofs.Common.{◌≡◌, true, false, refl, []}
use Rattle.hotel_books.proofs.Names.{outcome_on, is_booked_state}
use Rattle.hotel_core.proofs.OfCode.Parts.{begun, then_found}
use Rattle.hotel_core.proofs.OfCode.Parts.{stopped, refuses, ends}
use Rattle.hotel_model.specs.declared.reply.Refusal.TheVariants as refusal
use Rattle.hotel_core.proofs.OfCode.AnswerParts.{answers}
use Rattle.hotel_model.specs.declared.command.Command.TheVariants as command
use Rattle.hotel_core.proofs.commands.bookings.cancel.Goals as goal

pub returns-in_err-today : goal.returns-in_err-today
unfolding outcome_on
returns-in_err-today g c = λ source.
    stopped c.from_residual.result c.from_residual.ensures.1 begun c.in_err-today.ensures.finds (λ k e. rw e refl)

pub returns-in_err-stay : goal.returns-in_err-stay
unfolding outcome_on
returns-in_err-stay g c = λ source.
    stopped c.from_residual-in_err-stay.result c.from_residual-in_err-stay.ensures.1
    (then_found begun c.in_ok-today.ensures.finds) c.in_err-stay.ensures (λ k e. rw (k.1, e) refl)

pub returns-then-not-is_booked : goal.returns-then-not-is_booked
unfolding outcome_on
returns-then-not-is_booked g c = λ source.
    let booked : is_booked_state c.in_ok-stay.stay.state ≡ false = cc in
    refuses refusal.NotBooked refl (then_found (then_found begun c.in_ok-today.ensures.finds) c.in_ok-stay.ensures)
    (λ k. rw (k.0.1, k.1, booked) refl)

pub make-requires-clause-answered : goal.make-requires-clause-answered
unfolding outcome_on
make-requires-clause-answered g c =
    let booked : is_booked_state c.in_ok-stay.stay.state ≡ true = cc in
    answers (then_found (then_found begun c.in_ok-today.ensures.finds) c.in_ok-stay.ensures)
    (λ clean k. ([], command.Cancel c.args.party, tt, rw (k.0.1, k.1, booked) refl))

pub returns : goal.returns
unfolding outcome_on
returns g c = λ source.
    let booked : is_booked_state c.in_ok-stay.stay.state ≡ true = cc in
    ends g.met.B.Books.change_after
    (then_found (then_found begun c.in_ok-today.ensures.finds) c.in_ok-stay.ensures) (c.make.ensures.steps source)
    (λ k. rw (k.0.1, k.1, booked) refl)
