use Rattle.std.proofs.Common.{◌≡◌, ◌-◌, drop}
use Rattle.hotel_model.specs.Words.{pair_cmp}
use Rattle.hotel_model.specs.SoundRooms.{are_in_order}
use Rattle.hotel_rows.proofs.damage.numbers.rise_in_pairs.Given as goal

abbrev pub invariant-loop-i : goal.invariant-loop-i
invariant-loop-i l = are_in_order pair_cmp l.keys ≡ are_in_order pair_cmp (drop (l.i - 1) l.keys)
