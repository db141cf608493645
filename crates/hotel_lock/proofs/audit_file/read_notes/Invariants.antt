use Rattle.std.proofs.Common.{◌≡◌, map, take}
use Rattle.csv.specs.Records.{fields_of}
use Rattle.hotel_lock.specs.Line.{read_line}
use Rattle.hotel_lock.proofs.audit_file.read_notes.Given as goal

abbrev pub invariant-loop-row : goal.invariant-loop-row
invariant-loop-row l = l.lines.items ≡ map (read_line l.columns) (map fields_of (take l.row-index l.later))
