use Rattle.std.proofs.Common.{arith}
use Rattle.hotel_books.proofs.{Names.counted, OfNights.Fullest.greatest_end, OfNights.Fullest.greatest_parts}
use Rattle.hotel_books.proofs.night_index.NightIndex.most_counted.Goals as goal

pub loop-first-preserved : goal.loop-first-preserved
loop-first-preserved c =
    let f = counted c.args.self.now c.args.kind.now in
    let parts = greatest_parts f c.loop-first.first c.end_of_part-end.result c.number-last.result (omega arith)
    (omega arith) in
    record {
      small = omega arith;
      rest = omega (arith, parts, c.loop-first.invariant.rest, c.most_in_part.ensures);
    }

pub returns : goal.returns
returns c =
    let none = greatest_end (counted c.args.self.now c.args.kind.now) c.loop-first.first c.number-last.result
    (omega arith) in
    omega (arith, none, c.loop-first.invariant.rest)
