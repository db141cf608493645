use Rattle.std.proofs.Common.{refl, ◌∙◌}
use Rattle.hotel_books.proofs.Names.{IsUntaken, refused}
use Rattle.hotel_model.specs.declared.reply.Refusal.TheVariants as refusal
use Rattle.hotel_core.proofs.OfCode.Parts.{given, then_found, stopped, refuses, ends, only, bars_refuse, bars_pass}
use Rattle.hotel_core.proofs.OfCode.CheckParts.{then_passed, refused_first, bars_of_card}
use Rattle.hotel_core.proofs.OfCode.AnswerParts.{answers, comes_of}
use Rattle.hotel_books.proofs.OfCode.NoteFields.{room_is}
use Rattle.hotel_core.proofs.commands.exits.leave.Goals as goal

pub returns-in_err-noted_card : goal.returns-in_err-noted_card
returns-in_err-noted_card g c = λ source.
    refused_first c.from_residual.result c.from_residual.ensures.1
    (given (IsUntaken c.args.note.now c.args.row.now) c.requires.untaken) c.in_err-noted_card.ensures
    (λ k e. bars_refuse (bars_of_card (g.B.Books.rows c.args.books.now) c.args.number c.args.link.now) _ _ _ e)

pub returns-in_err-is_inside : goal.returns-in_err-is_inside
returns-in_err-is_inside g c = λ source.
    stopped c.from_residual-in_err-is_inside.result c.from_residual-in_err-is_inside.ensures.1
    (then_passed (given (IsUntaken c.args.note.now c.args.row.now) c.requires.untaken) c.in_ok-noted_card.ensures)
    c.in_err-is_inside.ensures (λ k e. cc)

pub returns-then-not-branch : goal.returns-then-not-branch
returns-then-not-branch g c = λ source.
    refuses refusal.NotInside refl (then_found (then_passed (given (IsUntaken c.args.note.now c.args.row.now)
    c.requires.untaken) c.in_ok-noted_card.ensures) (rw (room_is c.note.view_is) at c.in_ok-is_inside.ensures))
    (λ k. bars_pass (bars_of_card (g.B.Books.rows c.args.books.now) c.args.number c.args.link.now) _ _ k.0.1
    ∙ rw (only k.1, c.if-not-branch.true) (refl {a = refused refusal.NotInside}))

pub make-requires-clause-answered : goal.make-requires-clause-answered
make-requires-clause-answered g c =
    answers (then_found (then_passed (given (IsUntaken c.args.note.now c.args.row.now) c.requires.untaken)
    c.in_ok-noted_card.ensures) (rw (room_is c.note.view_is) at c.in_ok-is_inside.ensures))
    (λ clean k. comes_of _ _ _ (c.requires.outcome clean) (bars_pass (bars_of_card (g.B.Books.rows c.args.books.now)
    c.args.number c.args.link.now) _ _ k.0.1 ∙ rw (k.0.0.0, only k.1, c.if-not-branch.false, c.note.view_is) refl))

pub returns : goal.returns
returns g c = λ source.
    ends g.met.B.Books.change_after
    (then_found (then_passed (given (IsUntaken c.args.note.now c.args.row.now) c.requires.untaken)
    c.in_ok-noted_card.ensures) (rw (room_is c.note.view_is) at c.in_ok-is_inside.ensures))
    (c.make.ensures.steps source)
    (λ k. bars_pass (bars_of_card (g.B.Books.rows c.args.books.now) c.args.number c.args.link.now) _ _ k.0.1
    ∙ rw (k.0.0.0, only k.1, c.if-not-branch.false, c.note.view_is) refl)
