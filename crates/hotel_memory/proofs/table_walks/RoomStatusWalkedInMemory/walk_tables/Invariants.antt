use Rattle.std.specs.Prelude.{map}
use Rattle.hotel_model.specs.Refinement.ListsOnRows.{room_status_on, status_row_on}
use Rattle.hotel_books.proofs.OfCode.Walking.{SoFar}
use Rattle.hotel_memory.proofs.table_walks.RoomStatusWalkedInMemory.walk_tables.Given as goal

abbrev pub invariant-loop-row : goal.invariant-loop-row
invariant-loop-row g l =
    SoFar g.S.Sink.after (room_status_on l.tables) (map status_row_on l.row-iterator) l.initial.sink l.sink
