use Rattle.std.proofs.Common.{◌≡◌, ℕ, ◌-◌, Bool, arith, sym, ◌∙◌, Some, None, nat_le}
use Rattle.hotel_books.proofs.Names.{first_day, counted}
use Rattle.hotel_nights.proofs.FirstDay.{block-some, block-none, first_day-lt, first_day-end, day_of_number-le}
use Rattle.hotel_books.proofs.night_index.NightIndex.first_full.Goals as goal

pub returns-in-Some : goal.returns-in-Some
returns-in-Some c =
    let test : ℕ → Bool = λ d. nat_le c.args.rooms (counted c.args.self.now c.args.kind.now d) in
    let here : Some c.in-Some.night
    ≡ first_day test c.loop-first.first (c.end_of_part-end.result - c.loop-first.first) =
    sym c.in-Some.is ∙ c.first_in_part.ensures in
    let lt = first_day-lt test c.loop-first.first c.end_of_part-end.result c.in-Some.night (omega arith) here in
    let new : c.new.result ≡ Some c.in-Some.night = c.new.ensures ∙ day_of_number-le c.in-Some.night (omega arith) in
    new ∙ (block-some test c.loop-first.first c.end_of_part-end.result c.number-last.result c.in-Some.night
    (omega arith) (omega arith) here ∙ (sym c.loop-first.invariant.rest))

pub loop-first-preserved : goal.loop-first-preserved
loop-first-preserved c =
    let test : ℕ → Bool = λ d. nat_le c.args.rooms (counted c.args.self.now c.args.kind.now d) in
    let here : None ≡ first_day test c.loop-first.first (c.end_of_part-end.result - c.loop-first.first) =
    sym c.in_default.is ∙ c.first_in_part.ensures in
    record {
      small = omega arith;
      rest = c.loop-first.invariant.rest ∙ block-none test c.loop-first.first c.end_of_part-end.result
          c.number-last.result (omega arith) (omega arith) here;
    }

pub returns : goal.returns
returns c = first_day-end (λ d. nat_le c.args.rooms (counted c.args.self.now c.args.kind.now d)) c.loop-first.first
    c.number-last.result (omega arith) ∙ sym c.loop-first.invariant.rest
