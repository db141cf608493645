use Rattle.std.proofs.Common.{◌≡◌, List, ℕ, take}
use Rattle.std.specs.List.{count_by}
use Rattle.hotel_books.specs.KindRooms.{rooms_in}
use Rattle.hotel_rows.specs.RowTests.{is_room_of_kind}
use Rattle.hotel_rows.specs.Counts.{KnowsKinds}
use Rattle.hotel_rows.proofs.counts.count_rooms.Given as goal

abbrev pub invariant-loop-i : goal.invariant-loop-i
invariant-loop-i l = ((kind : List ℕ) → rooms_in l.counts kind ≡ count_by (is_room_of_kind kind) (take l.i l.rooms))
    × KnowsKinds l.counts l.kinds
