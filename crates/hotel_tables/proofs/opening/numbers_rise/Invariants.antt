use Rattle.std.proofs.Common.{◌≡◌, ◌-◌, drop}
use Rattle.std.specs.Ordering.{int_cmp}
use Rattle.hotel_model.specs.SoundRooms.{are_in_order}
use Rattle.hotel_tables.proofs.opening.numbers_rise.Given as goal

abbrev pub invariant-loop-i : goal.invariant-loop-i
invariant-loop-i l = are_in_order int_cmp l.ids ≡ are_in_order int_cmp (drop (l.i - 1) l.ids)
