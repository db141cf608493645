use Rattle.std.proofs.Common.{◌≡◌, ℕ, Bool, true, false, nat_le, replicate, ap, ◌∙◌, sym, arith}
use Rattle.hotel_books.proofs.{Names.nat_tests, Names.counted, OfNights.NightCounts.read_part}
use Rattle.std.specs.Option.{unwrap_or}
use Rattle.hotel_nights.proofs.FirstDay.{first_day-more, first_day-found, first_day-end}
use Rattle.hotel_books.proofs.night_index.NightIndex.first_in_part.Goals as goal

pub returns-then-counts-from : goal.returns-then-counts-from
returns-then-counts-from c =
    let test : ℕ → Bool = λ d. nat_le c.args.rooms (counted c.args.self.now c.args.kind.now d) in
    let d = c.loop-night.night in
    let e = read_part _ c.args.self.now c.args.kind.now c.args.from d c.unwrap_or-counts.result c.self.view_is
    (c.unwrap_or-counts.ensures ∙ ap (λ o. unwrap_or o (replicate {A = ℕ} 32 0)) (c.copied.ensures
    ∙ c.get.ensures.value)) (omega (arith, c.requires.one_block, c.loop-night.auto, c.loop-night-test.true)) in
    let full : test d ≡ true = grind (arith, nat_tests, e, c.from.ensures, c.if-counts-from.true) in
    first_day-found test d c.args.to c.loop-night-test.true full ∙ sym c.loop-night.invariant

pub loop-night-preserved : goal.loop-night-preserved
loop-night-preserved c =
    let test : ℕ → Bool = λ d. nat_le c.args.rooms (counted c.args.self.now c.args.kind.now d) in
    let d = c.loop-night.night in
    let e = read_part _ c.args.self.now c.args.kind.now c.args.from d c.unwrap_or-counts.result c.self.view_is
    (c.unwrap_or-counts.ensures ∙ ap (λ o. unwrap_or o (replicate {A = ℕ} 32 0)) (c.copied.ensures
    ∙ c.get.ensures.value)) (omega (arith, c.requires.one_block, c.loop-night.auto, c.loop-night-test.true)) in
    let few : test d ≡ false = grind (arith, nat_tests, e, c.from.ensures, c.if-counts-from.false) in
    c.loop-night.invariant ∙ first_day-more test d c.args.to c.loop-night-test.true few

pub returns : goal.returns
returns c = first_day-end (λ d. nat_le c.args.rooms (counted c.args.self.now c.args.kind.now d)) c.loop-night.night
    c.args.to (omega arith) ∙ sym c.loop-night.invariant
