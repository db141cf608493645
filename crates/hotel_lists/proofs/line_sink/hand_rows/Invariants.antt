use Rattle.std.specs.Prelude.{drop}
use Rattle.hotel_books.proofs.OfCode.Walking.{SoFar}
use Rattle.hotel_lists.proofs.line_sink.hand_rows.Given as goal

abbrev pub invariant-loop-row : goal.invariant-loop-row
invariant-loop-row g l = SoFar g.S.Sink.after l.rows (drop l.row-index l.rows) l.initial.sink l.sink
