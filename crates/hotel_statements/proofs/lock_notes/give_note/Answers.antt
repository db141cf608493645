use Rattle.std.proofs.Common.{[], ◌∷◌, subst}
use Rattle.hotel_statements.specs.Statements.{WritesBy, sets_noted}
use Rattle.hotel_books.specs.Refinement.Finds.{AnyRows}
use Rattle.hotel_books.proofs.OfCode.NoteFields.{room_is}
use Rattle.hotel_statements.specs.Steps.{room_noted}
use Rattle.hotel_statements.proofs.InTurn.{writes_then, writes_stopped}
use Rattle.hotel_statements.proofs.lock_notes.give_note.Goals as goal

pub returns-in_err-insert_note-clause-makes : goal.returns-in_err-insert_note-clause-makes
returns-in_err-insert_note-clause-makes g c = writes_stopped _ c.from_residual.result c.from_residual.ensures.0
    c.from_residual.ensures.1 c.in_err-insert_note.ensures.makes

pub returns-clause-makes : goal.returns-clause-makes
returns-clause-makes g c =
    let place = c.args.lock_place in
    let secured = c.args.secured in
    let number = c.args.number in
    let noted = subst (λ room. WritesBy g.S.Store (sets_noted room place secured number ∷ []) AnyRows
    (room_noted room place secured number) c.insert_note.new.tx.conn.now c.set_noted.new.tx.conn.now
    c.set_noted.result)
    (room_is c.note.view_is) c.set_noted.ensures.makes in
    writes_then c.in_ok-insert_note.ensures.makes noted
