use Rattle.std.proofs.Common.{ℕ, replicate, ap, sym, ◌∙◌, arith, slice_index}
use Rattle.std.specs.Option.{unwrap_or}
use Rattle.hotel_books.proofs.{Names.counted, OfNights.NightCounts.read_part}
use Rattle.hotel_books.proofs.OfNights.Fullest.{greatest_end, greatest_first}
use Rattle.hotel_books.proofs.night_index.NightIndex.most_in_part.Goals as goal

pub loop-night-preserved : goal.loop-night-preserved
loop-night-preserved c =
    let f = counted c.args.self.now c.args.kind.now in
    let d = c.loop-night.night in
    let here = read_part _ c.args.self.now c.args.kind.now c.args.from d c.unwrap_or-counts.result c.self.view_is
    (c.unwrap_or-counts.ensures ∙ ap (λ o. unwrap_or o (replicate {A = ℕ} 32 0)) (c.copied.ensures
    ∙ c.get.ensures.value)) (omega (arith, c.requires.one_block, c.loop-night.auto, c.loop-night-test.true))
    ∙ ap (λ place. slice_index c.unwrap_or-counts.result place) (sym c.from.ensures) in
    let first = greatest_first f d c.args.to c.loop-night-test.true in
    omega (arith, here, first, c.loop-night.invariant)

pub returns : goal.returns
returns c =
    let none = greatest_end (counted c.args.self.now c.args.kind.now) c.loop-night.night c.args.to (omega arith) in
    omega (arith, none, c.loop-night.invariant)
