use Rattle.std.proofs.Common.{◌≡◌, true, false, is_some, refl, sym, ◌∙◌}
use Rattle.hotel_books.proofs.Names.{turn, IsUntaken, opened_on, refused}
use Rattle.hotel_model.specs.declared.reply.Refusal.TheVariants as refusal
use Rattle.hotel_core.proofs.OfCode.Parts.{given, then_found, at_now, halted, refuses, ends, bars_refuse, bars_pass}
use Rattle.hotel_core.proofs.OfCode.CheckParts.{then_passed, refused_first, bars_of_card, has_link_now}
use Rattle.hotel_core.proofs.OfCode.AnswerParts.{comes_now, comes_of}
use Rattle.hotel_books.proofs.OfCode.NoteFields.{room_is}
use Rattle.hotel_core.proofs.commands.entries.enter.Goals as goal

pub returns-in_err-noted_card : goal.returns-in_err-noted_card
returns-in_err-noted_card g c = λ source.
    refused_first c.from_residual.result c.from_residual.ensures.1
    (given (IsUntaken c.args.note.now c.args.row.now) c.requires.untaken) c.in_err-noted_card.ensures
    (λ k e. bars_refuse (bars_of_card (g.B.Books.rows c.args.books.now) c.args.number c.args.link.now) _ _ _ e)

pub returns-in_err-held : goal.returns-in_err-held
returns-in_err-held g c = λ source.
    halted c.from_residual-in_err-held.result c.from_residual-in_err-held.ensures.1
    (then_passed (given (IsUntaken c.args.note.now c.args.row.now) c.requires.untaken) c.in_ok-noted_card.ensures)
    (rw (room_is c.note.view_is) at c.in_err-held.ensures) (λ w k. w.held _ _ k.0.0)

pub returns-then-not-opens : goal.returns-then-not-opens
returns-then-not-opens g c = λ source.
    let shut : is_some (turn c.in_ok-held.held c.args.link.now) ≡ false = sym c.opens.ensures ∙ c.if-not-opens.true in
    refuses refusal.LockShut refl (then_found (then_passed (given (IsUntaken c.args.note.now c.args.row.now)
    c.requires.untaken) c.in_ok-noted_card.ensures) (rw (room_is c.note.view_is) at c.in_ok-held.ensures))
    (λ k. bars_pass (bars_of_card (g.B.Books.rows c.args.books.now) c.args.number c.args.link.now) _ _ k.0.1
    ∙ rw (k.0.0.0, k.1, shut) (refl {a = refused refusal.LockShut}))

pub open-requires-clause-known : goal.open-requires-clause-known
open-requires-clause-known g c = λ clean.
    let s = then_found (then_passed (given (IsUntaken c.args.note.now c.args.row.now) c.requires.untaken)
    c.in_ok-noted_card.ensures) (rw (room_is c.note.view_is) at c.in_ok-held.ensures) in
    ((at_now s clean).0.0, has_link_now c.args.number c.args.link.now s (λ rows k. k.0.1) clean)

pub open-requires-clause-outcome : goal.open-requires-clause-outcome
open-requires-clause-outcome g c =
    let opens : is_some (turn c.in_ok-held.held c.args.link.now) ≡ true = sym c.opens.ensures ∙ c.if-not-opens.false in
    comes_now (λ rs. opened_on rs c.args.note.now c.args.number c.args.link.now)
    (then_found (then_passed (given (IsUntaken c.args.note.now c.args.row.now) c.requires.untaken)
    c.in_ok-noted_card.ensures) (rw (room_is c.note.view_is) at c.in_ok-held.ensures))
    (λ clean k. comes_of _ _ _ (c.requires.outcome clean) (bars_pass (bars_of_card (g.B.Books.rows c.args.books.now)
    c.args.number c.args.link.now) _ _ k.0.1 ∙ rw (k.0.0.0, k.1, opens) refl))

pub returns : goal.returns
returns g c = λ source.
    let opens : is_some (turn c.in_ok-held.held c.args.link.now) ≡ true = sym c.opens.ensures ∙ c.if-not-opens.false in
    ends g.met.B.Books.change_after
    (then_found (then_passed (given (IsUntaken c.args.note.now c.args.row.now) c.requires.untaken)
    c.in_ok-noted_card.ensures) (rw (room_is c.note.view_is) at c.in_ok-held.ensures))
    (c.open.ensures source)
    (λ k. bars_pass (bars_of_card (g.B.Books.rows c.args.books.now) c.args.number c.args.link.now) _ _ k.0.1
    ∙ rw (k.0.0.0, k.1, opens) refl)
