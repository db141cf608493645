use Rattle.std.proofs.Common.{◌≡◌, ◌++◌, filter, bytes_eq}
use Rattle.hotel_books.proofs.Names.{stays_of_kind}
use Rattle.hotel_memory.proofs.tables.Tables.stays_of_kind.Given as goal

abbrev pub invariant-loop-stay : goal.invariant-loop-stay
invariant-loop-stay l =
    l.found.items ++ filter (λ stay. bytes_eq stay.kind l.kind) l.stay-iterator ≡ stays_of_kind l.self l.kind
