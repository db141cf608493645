use Rattle.std.specs.Prelude.{filter_map}
use Rattle.hotel_model.specs.Refinement.ListsOnRows.{in_house_on, house_row_on}
use Rattle.hotel_books.proofs.OfCode.Walking.{SoFar}
use Rattle.hotel_memory.proofs.table_walks.InHouseWalkedInMemory.walk_tables.Given as goal

abbrev pub invariant-loop-row : goal.invariant-loop-row
invariant-loop-row g l =
    SoFar g.S.Sink.after (in_house_on l.tables) (filter_map (house_row_on l.tables) l.row-iterator) l.initial.sink
    l.sink
