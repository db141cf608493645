use Rattle.std.proofs.Common.{ℕ, ◌≡◌, ◌+◌, ◌<◌, ◌^◌, List, ap, sym, ◌∙◌, arith}
use Rattle.hotel_nights.specs.Block.{one_if}
use Rattle.hotel_nights.specs.FullNight.{takes}
use Rattle.hotel_books.specs.NightIndex.{counted, spans}
use Rattle.hotel_model.proofs.OfTables.Tests.{when_ok}
use Rattle.hotel_books.proofs.OfNights.NightsStanding.{takes_by, takes_none}
use Rattle.hotel_books.proofs.night_index.NightIndex.add.Goals as goal

pub returns-then-not-is_standing-clause-ok : goal.returns-then-not-is_standing-clause-ok
returns-then-not-is_standing-clause-ok c = λ k d few.
    let none = ap one_if (takes_none c.args.stay.now k d (sym c.is_standing.ensures ∙ c.if-not-is_standing.true)) in
    omega (arith, none)

pub returns-clause-ok : goal.returns-clause-ok
returns-clause-ok c =
    let stay = c.args.stay.now in
    let old = c.args.self.now in
    let new = c.add_span.new.self in
    let more : ((k : List ℕ) (d : ℕ) → counted old k d < 2 ^ 63
    → counted new k d ≡ counted old k d + one_if (spans stay.kind stay.arrive stay.depart k d))
    → (k : List ℕ) (d : ℕ) → counted old k d < 2 ^ 63 → counted new k d ≡ counted old k d + one_if (takes k d stay) =
    λ held k d few. held k d few ∙ ap (λ b. counted old k d + one_if b)
    (sym (takes_by stay k d (sym c.is_standing.ensures ∙ c.if-not-is_standing.false))) in
    when_ok _ _ _ more c.add_span.ensures.ok
