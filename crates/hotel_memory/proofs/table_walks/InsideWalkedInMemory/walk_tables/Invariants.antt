use Rattle.std.specs.Prelude.{filter_map}
use Rattle.hotel_model.specs.Refinement.ListsOnRows.{cards_inside_on, inside_row_on}
use Rattle.hotel_books.proofs.OfCode.Walking.{SoFar}
use Rattle.hotel_memory.proofs.table_walks.InsideWalkedInMemory.walk_tables.Given as goal

abbrev pub invariant-loop-pair : goal.invariant-loop-pair
invariant-loop-pair g l = SoFar g.S.Sink.after (cards_inside_on l.tables)
    (filter_map (inside_row_on l.tables) l.pair-iterator) l.initial.sink l.sink
