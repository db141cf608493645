use Rattle.std.proofs.Common.{◌≡◌, drop}
use Rattle.std.specs.List.{list_all}
use Rattle.hotel_rows.specs.RowTests.{room_fits}
use Rattle.hotel_rows.proofs.damage.rooms.rooms_fit.Given as goal

abbrev pub invariant-loop-i : goal.invariant-loop-i
invariant-loop-i l =
    list_all (room_fits l.stored) l.stored.room.items ≡ list_all (room_fits l.stored) (drop l.i l.stored.room.items)
