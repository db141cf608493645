use Rattle.std.proofs.Common.{arith, sym, ◌∙◌, refl}
use Rattle.hotel_nights.specs.{FullNight.is_full}
use Rattle.hotel_nights.proofs.BlockLemmas.{taken_on, was_taken-first, was_taken-next, full-yes, full-no}
use Rattle.hotel_nights.proofs.FirstDay.{first_day-more, first_day-found, first_day-end}
use Rattle.hotel_nights.proofs.block.first_in_block.Goals as goal

pub loop-night-init : goal.loop-night-init
loop-night-init c = record { taken = sym (was_taken-first c.args.stays.now c.args.kind.now c.args.first); rest = refl }

pub overflow_sub-taken : goal.overflow_sub-taken
overflow_sub-taken c =
    let on = taken_on c.args.stays.now c.args.kind.now c.args.first c.args.after c.loop-night.night c.from-place.result
    c.loop-night.taken _ _ c.loop-night-test.true (omega arith)
    c.loop-night.invariant.taken (c.count_stays-tally.ensures.ends c.from-place.result)
    (c.count_stays-tally.ensures.begins c.from-place.result) in
    omega (arith, on.0)

pub returns-then-taken-rooms : goal.returns-then-taken-rooms
returns-then-taken-rooms c =
    let on = taken_on c.args.stays.now c.args.kind.now c.args.first c.args.after c.loop-night.night c.from-place.result
    c.loop-night.taken _ _ c.loop-night-test.true (omega arith)
    c.loop-night.invariant.taken (c.count_stays-tally.ensures.ends c.from-place.result)
    (c.count_stays-tally.ensures.begins c.from-place.result) in
    first_day-found (is_full c.args.stays.now c.args.kind.now c.args.rooms) c.loop-night.night
    c.args.after c.loop-night-test.true
    (full-yes c.args.stays.now c.args.kind.now c.args.rooms c.loop-night.night (omega (arith, on.1)))
    ∙ sym c.loop-night.invariant.rest

pub loop-night-preserved : goal.loop-night-preserved
loop-night-preserved c =
    let on = taken_on c.args.stays.now c.args.kind.now c.args.first c.args.after c.loop-night.night c.from-place.result
    c.loop-night.taken _ _ c.loop-night-test.true (omega arith)
    c.loop-night.invariant.taken (c.count_stays-tally.ensures.ends c.from-place.result)
    (c.count_stays-tally.ensures.begins c.from-place.result) in
    record {
      taken =
          on.1 ∙ sym (was_taken-next c.args.stays.now c.args.kind.now c.args.first c.loop-night.night (omega arith));
      rest = c.loop-night.invariant.rest ∙ first_day-more (is_full c.args.stays.now c.args.kind.now c.args.rooms)
          c.loop-night.night c.args.after c.loop-night-test.true
          (full-no c.args.stays.now c.args.kind.now c.args.rooms c.loop-night.night (omega (arith, on.1)));
    }

pub returns : goal.returns
returns c =
    first_day-end (is_full c.args.stays.now c.args.kind.now c.args.rooms) c.loop-night.night c.args.after (omega arith)
    ∙ sym c.loop-night.invariant.rest
