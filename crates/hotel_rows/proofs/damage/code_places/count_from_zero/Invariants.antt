use Rattle.std.proofs.Common.{◌≡◌, ◌+◌, length}
use Rattle.std.specs.Map.{keys_of}
use Rattle.hotel_model.specs.SoundRooms.{count_up}
use Rattle.hotel_rows.proofs.damage.code_places.count_from_zero.Given as goal

abbrev pub invariant-loop-place : goal.invariant-loop-place
invariant-loop-place l = (count_up 0 (keys_of l.by_place.entries) ≡ count_up l.next (keys_of l.place-iterator))
    × (l.next + length l.place-iterator ≡ length l.by_place.entries)
