use Rattle.std.proofs.Common.{◌≡◌, ◌+◌, drop}
use Rattle.hotel_model.specs.SoundRooms.{count_up}
use Rattle.hotel_rows.proofs.damage.numbers.count_from_one.Given as goal

abbrev pub invariant-loop-i : goal.invariant-loop-i
invariant-loop-i l = count_up 1 l.keys ≡ count_up (l.i + 1) (drop l.i l.keys)
