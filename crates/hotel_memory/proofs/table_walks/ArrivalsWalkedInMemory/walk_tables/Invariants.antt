use Rattle.std.proofs.Common.{filter}
use Rattle.hotel_model.specs.{Lists.arrives_on, Refinement.ListsOnRows.arrivals_on}
use Rattle.hotel_books.proofs.OfCode.Walking.{SoFar}
use Rattle.hotel_memory.proofs.table_walks.ArrivalsWalkedInMemory.walk_tables.Given as goal

abbrev pub invariant-loop-stay : goal.invariant-loop-stay
invariant-loop-stay g l =
    SoFar g.S.Sink.after (arrivals_on l.tables l.self.0) (filter (arrives_on l.self.0) l.stay-iterator) l.initial.sink
    l.sink
