use Rattle.std.proofs.Common.{◌≡◌, List, ℕ, take}
use Rattle.hotel_books.specs.KindRooms.{rooms_in}
use Rattle.hotel_rows.specs.Counts.{KnowsKinds}
use Rattle.hotel_rows.proofs.counts.name_kinds.Given as goal

abbrev pub invariant-loop-i : goal.invariant-loop-i
invariant-loop-i l = ((kind : List ℕ) → rooms_in l.counts kind ≡ 0) × KnowsKinds l.counts (take l.i l.kinds)
