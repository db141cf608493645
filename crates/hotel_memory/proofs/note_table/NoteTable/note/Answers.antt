use Rattle.std.proofs.Common.{ℕ, ◌+◌, List, sym, ap, ◌∙◌, arith}
use Rattle.hotel_books.proofs.Names.{lookup, is_at, pair_cmp, Note}
use Rattle.hotel_memory.proofs.OfTables.RoomNotes.{none_high}
use Rattle.hotel_memory.proofs.note_table.NoteTable.note.Goals as goal

pub returns-in_err-number : goal.returns-in_err-number
returns-in_err-number c =
    let wide = c.in_err-number.ensures in
    c.from_residual.ensures
    ∙ sym (ap (λ (es : List ((ℕ × ℕ) × Note)). lookup (is_at (pair_cmp (c.args.room, c.args.before + c.args.count))) es)
    (sym c.self.view_is)
    ∙ none_high c.self.inside.notes.entries c.args.room (c.args.before + c.args.count) c.self.invariant (omega arith))
