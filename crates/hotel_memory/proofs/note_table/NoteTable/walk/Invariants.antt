use Rattle.std.proofs.Common.{map}
use Rattle.hotel_model.specs.Rows.{notes_at}
use Rattle.hotel_books.proofs.OfCode.Walking.{SoFar}
use Rattle.hotel_memory.proofs.note_table.NoteTable.walk.Given as goal

abbrev pub invariant-loop-note : goal.invariant-loop-note
invariant-loop-note g l =
    SoFar g.S.Sink.after (notes_at l.self l.fn.room) (map (λ e. e.1) l.note-iterator) l.initial.sink l.sink
