use Rattle.std.proofs.Common.{◌≡◌, true, false, refl, is_some, []}
use Rattle.hotel_books.proofs.Names.{AlreadyBegun, outcome_on}
use Rattle.hotel_core.proofs.OfCode.Parts.{begun, then_found, stopped, refuses, ends, only}
use Rattle.hotel_core.proofs.OfCode.AnswerParts.{answers}
use Rattle.hotel_model.specs.declared.command.Command.TheVariants as command
use Rattle.hotel_core.proofs.commands.calendar.begin.Goals as goal

pub returns-in_err-day_if_set-clause-steps : goal.returns-in_err-day_if_set-clause-steps
unfolding outcome_on
returns-in_err-day_if_set-clause-steps g c = λ source.
    stopped c.from_residual.result c.from_residual.ensures.1 begun c.in_err-day_if_set.ensures.finds (λ k e. cc)

pub returns-then-is_some-clause-steps : goal.returns-then-is_some-clause-steps
unfolding outcome_on
returns-then-is_some-clause-steps g c = λ source.
    let set : is_some c.in_ok-day_if_set.field-0 ≡ true = cc in
    refuses AlreadyBegun refl (then_found begun c.in_ok-day_if_set.ensures.finds) (λ k. rw (only k.1, set) refl)

pub make-requires-clause-answered : goal.make-requires-clause-answered
unfolding outcome_on
make-requires-clause-answered g c =
    let unset : is_some c.in_ok-day_if_set.field-0 ≡ false = cc in
    answers (then_found begun c.in_ok-day_if_set.ensures.finds)
    (λ clean k. ([], command.Begin c.args.day, c.requires, rw (only k.1, unset) refl))

pub returns-clause-steps : goal.returns-clause-steps
unfolding outcome_on
returns-clause-steps g c = λ source.
    let unset : is_some c.in_ok-day_if_set.field-0 ≡ false = cc in
    ends g.met.B.Books.change_after (then_found begun c.in_ok-day_if_set.ensures.finds) (c.make.ensures.steps source)
    (λ k. rw (only k.1, unset) refl)
