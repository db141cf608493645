-- the notes so far were written, or their lines are gathered
use Rattle.std.proofs.Common.{take}
use Rattle.hotel_streams.specs.Calls.{NoneForgotten}
use Rattle.hotel_lock.proofs.LogWritten.{Stands}
use Rattle.hotel_lock.proofs.log_writer.write_notes.Given as goal

abbrev pub invariant-loop-note : goal.invariant-loop-note
invariant-loop-note g l =
    Stands (g.W.Write.contents l.fn.writer) (g.W.Write.contents l.writer) l.lines (take l.note-index l.notes)
    × NoneForgotten l.initial.calls l.calls
