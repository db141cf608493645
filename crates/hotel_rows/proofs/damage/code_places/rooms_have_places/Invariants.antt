use Rattle.std.proofs.Common.{◌≡◌, drop}
use Rattle.std.specs.List.{list_all}
use Rattle.hotel_rows.specs.CodePlaces.{placed_as_due}
use Rattle.hotel_rows.proofs.damage.code_places.rooms_have_places.Given as goal

abbrev pub invariant-loop-i : goal.invariant-loop-i
invariant-loop-i l = list_all (placed_as_due l.placed.entries) l.stored.room.items
    ≡ list_all (placed_as_due l.placed.entries) (drop l.i l.stored.room.items)
