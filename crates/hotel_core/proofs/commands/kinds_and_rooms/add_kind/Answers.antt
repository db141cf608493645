use Rattle.std.proofs.Common.{refl, []}
use Rattle.hotel_books.proofs.Names.{KindExists, outcome_on}
use Rattle.hotel_core.proofs.OfCode.Parts.{begun, then_found, stopped, refuses, ends, only}
use Rattle.hotel_core.proofs.OfCode.AnswerParts.{answers}
use Rattle.hotel_model.specs.declared.command.Command.TheVariants as command
use Rattle.hotel_core.proofs.commands.kinds_and_rooms.add_kind.Goals as goal

pub returns-in_err-today : goal.returns-in_err-today
unfolding outcome_on
returns-in_err-today g c = λ source.
    stopped c.from_residual.result c.from_residual.ensures.1 begun c.in_err-today.ensures.finds (λ k e. rw e refl)

pub returns-in_err-is_kind : goal.returns-in_err-is_kind
unfolding outcome_on
returns-in_err-is_kind g c = λ source.
    stopped c.from_residual-in_err-is_kind.result c.from_residual-in_err-is_kind.ensures.1
    (then_found begun c.in_ok-today.ensures.finds) c.in_err-is_kind.ensures (λ k e. cc)

pub returns-then-branch : goal.returns-then-branch
unfolding outcome_on
returns-then-branch g c = λ source.
    let there = c.if-branch.true in
    refuses KindExists refl (then_found (then_found begun c.in_ok-today.ensures.finds) c.in_ok-is_kind.ensures)
    (λ k. rw (k.0.1, only k.1, there) refl)

pub make-requires-clause-answered : goal.make-requires-clause-answered
unfolding outcome_on
make-requires-clause-answered g c =
    let there = c.if-branch.false in
    answers (then_found (then_found begun c.in_ok-today.ensures.finds) c.in_ok-is_kind.ensures)
    (λ clean k. ([], command.AddKind c.args.kind.now, c.requires, rw (k.0.1, only k.1, there) refl))

pub returns : goal.returns
unfolding outcome_on
returns g c = λ source.
    let there = c.if-branch.false in
    ends g.met.B.Books.change_after (then_found (then_found begun c.in_ok-today.ensures.finds) c.in_ok-is_kind.ensures)
    (c.make.ensures.steps source) (λ k. rw (k.0.1, only k.1, there) refl)
