use Rattle.std.proofs.Common.{◌≡◌, take, map}
use Rattle.hotel_rows.specs.Keys.{room_key}
use Rattle.hotel_rows.proofs.rooms.rooms_of.Given as goal

abbrev pub invariant-loop-i : goal.invariant-loop-i
invariant-loop-i l = l.numbers.items ≡ map room_key (take l.i l.rooms)
