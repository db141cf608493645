use Rattle.std.specs.Prelude.{filter_map, map}
use Rattle.hotel_model.specs.Refinement.ListsOnRows.{locks_on, lock_at}
use Rattle.hotel_books.proofs.OfCode.Walking.{SoFar}
use Rattle.hotel_memory.proofs.table_walks.LocksWalkedInMemory.walk_tables.Given as goal

abbrev pub invariant-loop-row : goal.invariant-loop-row
invariant-loop-row g l = SoFar g.S.Sink.after (locks_on l.tables)
    (filter_map (lock_at l.tables) (map (λ row. row.room) l.row-iterator)) l.initial.sink l.sink
