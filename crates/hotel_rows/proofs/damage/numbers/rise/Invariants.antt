use Rattle.std.proofs.Common.{◌≡◌, ◌-◌, drop, nat_cmp}
use Rattle.hotel_model.specs.SoundRooms.{are_in_order}
use Rattle.hotel_rows.proofs.damage.numbers.rise.Given as goal

abbrev pub invariant-loop-i : goal.invariant-loop-i
invariant-loop-i l = are_in_order nat_cmp l.keys ≡ are_in_order nat_cmp (drop (l.i - 1) l.keys)
