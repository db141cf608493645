use Rattle.std.specs.Prelude.{map}
use Rattle.hotel_model.specs.Refinement.ListsOnRows.{availability_on, free_row_on}
use Rattle.hotel_books.proofs.OfCode.Walking.{SoFar}
use Rattle.hotel_memory.proofs.table_walks.AvailabilityWalkedInMemory.walk_tables.Given as goal

abbrev pub invariant-loop-kind : goal.invariant-loop-kind
invariant-loop-kind g l = SoFar g.S.Sink.after (availability_on l.tables l.self.0 l.self.1)
    (map (free_row_on l.tables l.self.0 l.self.1) l.kind-iterator) l.initial.sink l.sink
