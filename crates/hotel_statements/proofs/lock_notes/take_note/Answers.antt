use Rattle.std.proofs.Common.{[], ◌∷◌, sym, subst}
use Rattle.hotel_model.specs.Refinement.Change.{made}
use Rattle.hotel_model.specs.declared.change.Change.TheVariants as change
use Rattle.hotel_model.specs.declared.change.InsideMove.TheVariants.{Same, Goes, Comes}
use Rattle.hotel_statements.specs.Statements.{WritesBy, takes_note, removes_inside, adds_inside}
use Rattle.hotel_books.specs.Refinement.Finds.{AnyRows}
use Rattle.hotel_statements.specs.Steps.{IsNumbered, inside_gone, inside_added}
use Rattle.hotel_statements.proofs.InTurn.{writes_then, writes_stopped, writes_as}
use Rattle.hotel_statements.proofs.Made.Rooms.{note_is}
use Rattle.hotel_books.proofs.OfCode.NoteFields.{room_is}
use Rattle.hotel_statements.proofs.lock_notes.take_note.Goals as goal

pub returns-in_err-give_note-in-Goes-clause-makes : goal.returns-in_err-give_note-in-Goes-clause-makes
returns-in_err-give_note-in-Goes-clause-makes g c = writes_stopped _ c.from_residual.result c.from_residual.ensures.0
    c.from_residual.ensures.1 c.in_err-give_note-in-Goes.ensures.makes

pub returns-in_err-give_note-in-Comes-clause-makes : goal.returns-in_err-give_note-in-Comes-clause-makes
returns-in_err-give_note-in-Comes-clause-makes g c = writes_stopped _ c.from_residual-in_err-give_note-in-Comes.result
    c.from_residual-in_err-give_note-in-Comes.ensures.0 c.from_residual-in_err-give_note-in-Comes.ensures.1
    c.in_err-give_note-in-Comes.ensures.makes

pub returns-in-Same-clause-makes : goal.returns-in-Same-clause-makes
returns-in-Same-clause-makes g c =
    let note = c.args.note.now in
    let number = c.args.number in
    let place = c.args.lock_place in
    let secured = c.args.secured in
    subst (λ insides. WritesBy g.S.Store (takes_note note number place secured insides) (IsNumbered note number)
    (made (change.Noted note place secured insides)) c.args.tx.now.conn.now c.give_note.new.tx.conn.now
    c.give_note.result)
    (sym c.in-Same.is) (writes_as (λ rows is. is.note_new) (note_is note number place secured Same)
    c.give_note.ensures.makes)

pub returns-in_ok-give_note-in-Goes-clause-makes : goal.returns-in_ok-give_note-in-Goes-clause-makes
returns-in_ok-give_note-in-Goes-clause-makes g c =
    let note = c.args.note.now in
    let number = c.args.number in
    let place = c.args.lock_place in
    let secured = c.args.secured in
    let card = c.in-Goes.card in
    let goes = subst (λ room. WritesBy g.S.Store (removes_inside room card ∷ []) AnyRows (inside_gone room card)
    c.give_note-in-Goes.new.tx.conn.now c.delete_inside.new.tx.conn.now c.delete_inside.result)
    (room_is c.note.view_is) c.delete_inside.ensures.makes in
    subst (λ insides. WritesBy g.S.Store (takes_note note number place secured insides) (IsNumbered note number)
    (made (change.Noted note place secured insides)) c.args.tx.now.conn.now c.delete_inside.new.tx.conn.now
    c.delete_inside.result)
    (sym c.in-Goes.is) (writes_as (λ rows is. is.note_new) (note_is note number place secured (Goes card))
    (writes_then c.in_ok-give_note-in-Goes.ensures.makes goes))

pub returns-in_ok-give_note-in-Comes-clause-makes : goal.returns-in_ok-give_note-in-Comes-clause-makes
returns-in_ok-give_note-in-Comes-clause-makes g c =
    let note = c.args.note.now in
    let number = c.args.number in
    let place = c.args.lock_place in
    let secured = c.args.secured in
    let card = c.in-Comes.card in
    let comes = subst (λ room. WritesBy g.S.Store (adds_inside room card ∷ []) AnyRows (inside_added room card)
    c.give_note-in-Comes.new.tx.conn.now c.insert_inside.new.tx.conn.now c.insert_inside.result)
    (room_is c.note.view_is) c.insert_inside.ensures.makes in
    subst (λ insides. WritesBy g.S.Store (takes_note note number place secured insides) (IsNumbered note number)
    (made (change.Noted note place secured insides)) c.args.tx.now.conn.now c.insert_inside.new.tx.conn.now
    c.insert_inside.result)
    (sym c.in-Comes.is) (writes_as (λ rows is. is.note_new) (note_is note number place secured (Comes card))
    (writes_then c.in_ok-give_note-in-Comes.ensures.makes comes))
