use Rattle.std.specs.Prelude.{filter_map}
use Rattle.hotel_model.specs.Refinement.ListsOnRows.{left_behind_on, behind_row_on}
use Rattle.hotel_books.proofs.OfCode.Walking.{SoFar}
use Rattle.hotel_memory.proofs.table_walks.LeftBehindWalkedInMemory.walk_tables.Given as goal

abbrev pub invariant-loop-row : goal.invariant-loop-row
invariant-loop-row g l = SoFar g.S.Sink.after (left_behind_on l.tables)
    (filter_map (behind_row_on l.tables) l.row-iterator) l.initial.sink l.sink
