use Rattle.std.proofs.Common.{◌-◌, ap, sym, ◌∙◌, arith}
use Rattle.hotel_books.proofs.{Names.one_if, Names.counted, Names.spans, OfNights.NightsStanding.takes_by}
use Rattle.hotel_books.proofs.OfNights.NightsStanding.{takes_none}
use Rattle.hotel_books.proofs.night_index.NightIndex.remove.Goals as goal

pub returns-then-is_standing : goal.returns-then-is_standing
returns-then-is_standing c = λ k d. c.uncount.ensures k d ∙ (λ i. counted c.args.self.now k d
    - one_if (spans c.args.stay.now.kind (c.number-first.ensures.same i) (c.number-last.ensures.same i) k d))
    ∙ ap (λ b. counted c.args.self.now k d - one_if b)
    (sym (takes_by c.args.stay.now k d (sym c.is_standing.ensures ∙ c.if-is_standing.true)))

pub returns-else-is_standing : goal.returns-else-is_standing
returns-else-is_standing c = λ k d.
    let none = ap one_if (takes_none c.args.stay.now k d (sym c.is_standing.ensures ∙ c.if-is_standing.false)) in
    omega (arith, none)
