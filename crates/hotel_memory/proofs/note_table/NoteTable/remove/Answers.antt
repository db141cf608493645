use Rattle.std.proofs.Common.{sym, subst}
use Rattle.hotel_memory.specs.Tables.{HaveCounts}
use Rattle.hotel_memory.proofs.OfTables.RoomNotes.{counts_removed}
use Rattle.hotel_memory.proofs.note_table.NoteTable.remove.Goals as goal

pub invariant_of-self : goal.invariant_of-self
invariant_of-self c = subst (λ es. HaveCounts es) (sym c.remove.ensures.entries)
    (counts_removed c.self.inside.notes.entries (c.args.room, c.args.number) c.self.invariant)
