use Rattle.std.proofs.Common.{◌≡◌, ◌-◌, drop, map, nat_cmp}
use Rattle.std.specs.Cmp.Lexicographic.{slice_cmp}
use Rattle.hotel_model.specs.SoundRooms.{are_in_order}
use Rattle.hotel_rows.specs.Stored.{kind_text}
use Rattle.hotel_rows.proofs.damage.kinds.kinds_rise.Given as goal

abbrev pub invariant-loop-i : goal.invariant-loop-i
invariant-loop-i l = are_in_order (slice_cmp nat_cmp) (map kind_text l.kinds)
    ≡ are_in_order (slice_cmp nat_cmp) (map kind_text (drop (l.i - 1) l.kinds))
