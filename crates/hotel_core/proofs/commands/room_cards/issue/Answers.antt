use Rattle.std.proofs.Common.{ℕ, ◌≡◌, Some, refl}
use Rattle.hotel_books.proofs.Names.{outcome_on, Link, card_of, room_at}
use Rattle.hotel_core.proofs.OfCode.Parts.{then_found}
use Rattle.hotel_core.proofs.OfCode.Parts.{stopped, halted}
use Rattle.hotel_model.specs.declared.reply.Reply.TheVariants as reply
use Rattle.hotel_model.specs.declared.change.Change.TheVariants as change
use Rattle.hotel_core.proofs.{OfCode.Parts.given, OfCode.Parts.number_is, OfCode.DrawParts.undrawn}
use Rattle.hotel_core.proofs.OfCode.DrawParts.{drawn_ends}
use Rattle.hotel_core.proofs.OfCode.AnswerParts.{comes_of, drawn_answers}
use Rattle.hotel_core.proofs.commands.room_cards.issue.Goals as goal

abbrev linked : ℕ → ℕ → Link
linked old new = record { old_code = old; new_code = new }

pub returns-in_err-number : goal.returns-in_err-number
unfolding outcome_on
returns-in_err-number g c =
    stopped c.from_residual.result c.from_residual.ensures.1 (given (λ rs. room_at rs c.args.room ≡ Some c.args.row.now)
    c.requires.there) c.in_err-number.ensures (λ k e. rw e refl)

pub returns-in_err-old_code : goal.returns-in_err-old_code
unfolding outcome_on
returns-in_err-old_code g c =
    halted c.from_residual-in_err-old_code.result c.from_residual-in_err-old_code.ensures.1
    (then_found (given (λ rs. room_at rs c.args.room ≡ Some c.args.row.now) c.requires.there) c.in_ok-number.ensures)
    c.in_err-old_code.ensures.finds (λ w k. (w.current _ _ k.0, w.few _ _ k.0))

pub returns-in_err-new_code : goal.returns-in_err-new_code
unfolding outcome_on
returns-in_err-new_code g c =
    undrawn c.from_residual-in_err-new_code.result (λ code. reply.Issued
    (card_of c.in_ok-number.number c.args.party (linked c.in_ok-old_code.old_code code))) (λ code. change.Issue
    (card_of c.in_ok-number.number c.args.party (linked c.in_ok-old_code.old_code code)) c.args.room c.args.leaves)
    c.from_residual-in_err-new_code.ensures.1
    (then_found (then_found (given (λ rs. room_at rs c.args.room ≡ Some c.args.row.now) c.requires.there)
    c.in_ok-number.ensures) c.in_ok-old_code.ensures.finds) c.in_err-new_code.ensures
    (λ k. rw (k.0.1, number_is _ _ k.0.1, k.0.0, k.1) refl)

pub make-requires-clause-answered : goal.make-requires-clause-answered
make-requires-clause-answered g c =
    drawn_answers (λ code. reply.Issued
    (card_of c.in_ok-number.number c.args.party (linked c.in_ok-old_code.old_code code))) (λ code. change.Issue
    (card_of c.in_ok-number.number c.args.party (linked c.in_ok-old_code.old_code code)) c.args.room c.args.leaves)
    (then_found (then_found (given (λ rs. room_at rs c.args.room ≡ Some c.args.row.now) c.requires.there)
    c.in_ok-number.ensures) c.in_ok-old_code.ensures.finds) c.in_ok-new_code.ensures
    (λ clean k. comes_of _ _ _ (c.requires.outcome clean) (rw (k.0.1, number_is _ _ k.0.1, k.0.0, k.1) refl))

pub returns : goal.returns
unfolding outcome_on
returns g c =
    drawn_ends g.met.B.Books.change_after (λ code. reply.Issued
    (card_of c.in_ok-number.number c.args.party (linked c.in_ok-old_code.old_code code))) (λ code. change.Issue
    (card_of c.in_ok-number.number c.args.party (linked c.in_ok-old_code.old_code code)) c.args.room c.args.leaves)
    (then_found (then_found (given (λ rs. room_at rs c.args.room ≡ Some c.args.row.now) c.requires.there)
    c.in_ok-number.ensures) c.in_ok-old_code.ensures.finds) c.in_ok-new_code.ensures (c.make.ensures.steps _)
    (λ k. rw (k.0.1, number_is _ _ k.0.1, k.0.0, k.1) refl)
