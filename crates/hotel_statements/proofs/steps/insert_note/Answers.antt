use Rattle.std.proofs.Common.{[], ◌∷◌, ap, refl}
use Rattle.keycard_rules.specs.Note.{Note}
use Rattle.hotel_books.proofs.OfCode.NoteFields.{act_is, room_is}
use Rattle.hotel_statements.specs.Values.{int, maybe_int}
use Rattle.hotel_statements.specs.Columns.{act_number, act_card, act_first, act_second}
use Rattle.hotel_statements.proofs.InTurn.{writes_row}
use Rattle.hotel_statements.proofs.Made.Reads.{bound_maybe}
use Rattle.hotel_statements.proofs.Made.Inserts.{note_step}
use Rattle.hotel_statements.proofs.steps.insert_note.Goals as goal

pub returns-clause-makes : goal.returns-clause-makes
returns-clause-makes g c =
    let n = c.args.note.now in
    writes_row (int n.room ∷ int c.args.number ∷ int (act_number n.act) ∷ maybe_int (act_card n.act)
    ∷ int (act_first n.act) ∷ int (act_second n.act) ∷ int n.day ∷ int n.second ∷ []) c.run.ensures.runs
    c.run.ensures.answers (note_step _ _ n c.args.number)
    (rw (
      c.numbered.ensures,
      c.small.ensures,
      c.act_number.ensures,
      c.act_card.ensures,
      c.act_first.ensures,
      c.act_second.ensures,
      c.small-2.ensures,
      c.small-3.ensures,
      c.from.ensures,
      room_is c.note.view_is,
      act_is c.note.view_is,
      ap (λ (note : Note). note.day) c.note.view_is,
      ap (λ (note : Note). note.second) c.note.view_is,
      bound_maybe (act_card n.act),
    ) refl)
