-- the notes so far, and the lines that are left
use Rattle.std.proofs.Common.{◌≡◌, ◌++◌, map, drop}
use Rattle.hotel_lock.specs.declared.line.Line.TheVariants as line
use Rattle.hotel_door.proofs.lock_file.notes_in.Given as goal

abbrev pub invariant-loop-line : goal.invariant-loop-line
invariant-loop-line l = l.line-items ≡ map line.Note l.notes.items ++ drop l.line-index l.line-items
