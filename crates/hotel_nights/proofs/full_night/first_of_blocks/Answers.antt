use Rattle.std.proofs.Common.{◌≡◌, ◌-◌, arith, sym, ◌∙◌, Some, None}
use Rattle.hotel_nights.specs.FullNight.{is_full, first_day}
use Rattle.hotel_nights.proofs.FirstDay.{block-some, block-none, first_day-lt, first_day-end, day_of_number-le}
use Rattle.hotel_nights.proofs.full_night.first_of_blocks.Goals as goal

pub returns-in-Some : goal.returns-in-Some
returns-in-Some c =
    let test = is_full c.args.stays.now c.args.kind.now c.args.rooms in
    let here : Some c.in-Some.night ≡ first_day test c.loop-first.first (c.min-after.result - c.loop-first.first) =
    sym c.in-Some.is ∙ c.first_in_block.ensures in
    let lt = first_day-lt test c.loop-first.first c.min-after.result c.in-Some.night (omega arith) here in
    let new : c.new.result ≡ Some c.in-Some.night = c.new.ensures ∙ day_of_number-le c.in-Some.night (omega arith) in
    new ∙ (block-some test c.loop-first.first c.min-after.result c.number-last.result c.in-Some.night (omega arith)
    (omega arith) here ∙ (sym c.loop-first.invariant.rest))

pub loop-first-preserved : goal.loop-first-preserved
loop-first-preserved c =
    let test = is_full c.args.stays.now c.args.kind.now c.args.rooms in
    let here : None ≡ first_day test c.loop-first.first (c.min-after.result - c.loop-first.first) =
    sym c.in_default.is ∙ c.first_in_block.ensures in
    record {
      small = omega arith;
      rest = c.loop-first.invariant.rest
          ∙ block-none test c.loop-first.first c.min-after.result c.number-last.result (omega arith) (omega arith) here;
    }

pub returns : goal.returns
returns c = first_day-end (is_full c.args.stays.now c.args.kind.now c.args.rooms) c.loop-first.first
    c.number-last.result (omega arith) ∙ sym c.loop-first.invariant.rest
