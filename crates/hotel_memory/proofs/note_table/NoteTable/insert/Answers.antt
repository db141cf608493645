use Rattle.std.proofs.Common.{rules, sym, subst}
use Rattle.hotel_memory.proofs.OfTables.RoomNotes.{counts_added}
use Rattle.hotel_memory.specs.Tables.{HaveCounts}
use Rattle.hotel_memory.proofs.note_table.NoteTable.insert.Goals as goal

pub invariant_of-self-2 : goal.invariant_of-self-2
invariant_of-self-2 c =
    subst (λ es. HaveCounts es) (sym c.in-Ok.ensures.entries) (counts_added c.self.inside.notes.entries
    (c.note.inside.room, c.args.number) _ c.self.invariant (search rules))
