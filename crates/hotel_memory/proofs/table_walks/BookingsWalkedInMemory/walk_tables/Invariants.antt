use Rattle.std.proofs.Common.{filter}
use Rattle.hotel_model.specs.{Lists.is_booking, Refinement.ListsOnRows.bookings_on}
use Rattle.hotel_books.proofs.OfCode.Walking.{SoFar}
use Rattle.hotel_memory.proofs.table_walks.BookingsWalkedInMemory.walk_tables.Given as goal

abbrev pub invariant-loop-stay : goal.invariant-loop-stay
invariant-loop-stay g l =
    SoFar g.S.Sink.after (bookings_on l.tables) (filter is_booking l.stay-iterator) l.initial.sink l.sink
