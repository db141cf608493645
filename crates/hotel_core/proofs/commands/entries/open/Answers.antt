use Rattle.std.proofs.Common.{ℕ, ◌≡◌, true, refl}
use Rattle.hotel_books.proofs.Names.{Link, Note, RoomRow, Rows, IsUntaken, has_link_on}
use Rattle.hotel_core.proofs.OfCode.Parts.{given, then_found, stopped, halted, ends, only}
use Rattle.hotel_core.proofs.{OfCode.NoteParts.link_is_there, OfCode.AnswerParts.answers, OfCode.AnswerParts.comes_of}
use Rattle.hotel_books.proofs.OfCode.NoteFields.{room_is}
use Rattle.hotel_core.proofs.commands.entries.open.Goals as goal

abbrev Known : Note → RoomRow → ℕ → Link → Rows → Type 0
Known note row number link rows = IsUntaken note row rows × (has_link_on rows number link ≡ true)

pub returns-in_err-lock_place : goal.returns-in_err-lock_place
returns-in_err-lock_place g c = λ source.
    halted c.from_residual.result c.from_residual.ensures.1
    (given (Known c.args.note.now c.args.row.now c.args.number c.args.link.now) c.requires.known)
    c.in_err-lock_place.ensures (λ w k. link_is_there _ _ _ w k.1)

pub returns-in_err-secured : goal.returns-in_err-secured
returns-in_err-secured g c = λ source.
    stopped c.from_residual-in_err-secured.result c.from_residual-in_err-secured.ensures.1
    (then_found (given (Known c.args.note.now c.args.row.now c.args.number c.args.link.now) c.requires.known)
    c.in_ok-lock_place.ensures)
    c.in_err-secured.ensures (λ k e. cc)

pub returns-in_err-is_inside : goal.returns-in_err-is_inside
returns-in_err-is_inside g c = λ source.
    stopped c.from_residual-in_err-is_inside.result c.from_residual-in_err-is_inside.ensures.1
    (then_found (then_found (given (Known c.args.note.now c.args.row.now c.args.number c.args.link.now)
    c.requires.known) c.in_ok-lock_place.ensures) (rw (room_is c.note.view_is) at c.in_ok-secured.ensures))
    c.in_err-is_inside.ensures (λ k e. cc)

pub make-requires-clause-answered : goal.make-requires-clause-answered
make-requires-clause-answered g c =
    let insides = c.comes-insides.ensures in
    answers (then_found (then_found (then_found (given (Known c.args.note.now c.args.row.now c.args.number
    c.args.link.now) c.requires.known) c.in_ok-lock_place.ensures)
    (rw (room_is c.note.view_is) at c.in_ok-secured.ensures))
    (rw (room_is c.note.view_is) at c.in_ok-is_inside.ensures))
    (λ clean k. comes_of _ _ _ (c.requires.outcome clean)
    (rw (k.0.0.0.0.0, k.0.0.1, ← only k.0.1, insides, only k.1, c.note.view_is) refl))

pub returns : goal.returns
returns g c = λ source.
    let insides = c.comes-insides.ensures in
    ends g.met.B.Books.change_after
    (then_found (then_found (then_found (given (Known c.args.note.now c.args.row.now c.args.number c.args.link.now)
    c.requires.known) c.in_ok-lock_place.ensures) (rw (room_is c.note.view_is) at c.in_ok-secured.ensures))
    (rw (room_is c.note.view_is) at c.in_ok-is_inside.ensures))
    (c.make.ensures.steps source) (λ k. rw (k.0.0.0.0.0, k.0.0.1, ← only k.0.1, insides, only k.1, c.note.view_is) refl)
