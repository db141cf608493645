use Rattle.std.proofs.Common.{◌≡◌, ◌≤◌, ◌-◌}
use Rattle.hotel_nights.specs.FullNight.{first_day, is_full}
use Rattle.hotel_nights.proofs.full_night.first_of_blocks.Given as goal

abbrev pub invariant-loop-first : goal.invariant-loop-first
invariant-loop-first l = record {
  small : l.first ≤ 36524;
  rest : first_day (is_full l.stays l.kind l.rooms) l.fn.arrive (l.fn.depart - l.fn.arrive)
      ≡ first_day (is_full l.stays l.kind l.rooms) l.first (l.last - l.first);
}

abbrev pub decreases-loop-first : goal.decreases-loop-first
decreases-loop-first l = l.last - l.first
