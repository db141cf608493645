use Rattle.std.proofs.Common.{◌≡◌, ◌-◌, count_by}
use Rattle.hotel_nights.specs.{Block.was_taken, FullNight.first_day, FullNight.is_full}
use Rattle.hotel_nights.proofs.block.first_in_block.Given as goal

abbrev pub invariant-loop-night : goal.invariant-loop-night
invariant-loop-night l = record {
  taken : l.taken ≡ count_by (was_taken l.kind l.first l.night) l.stays;
  rest : first_day (is_full l.stays l.kind l.rooms) l.first (l.after - l.first)
      ≡ first_day (is_full l.stays l.kind l.rooms) l.night (l.after - l.night);
}
