use Rattle.std.proofs.Common.{ℕ, ◌≡◌, ◌+◌, ◌<◌, ◌^◌, List, ◌∙◌}
use Rattle.hotel_nights.specs.Block.{one_if}
use Rattle.hotel_books.specs.NightIndex.{counted, spans}
use Rattle.hotel_model.proofs.OfTables.Tests.{when_ok}
use Rattle.hotel_books.proofs.night_index.NightIndex.add_span.Goals as goal

pub returns-clause-ok : goal.returns-clause-ok
returns-clause-ok c =
    let kind = c.args.kind.now in
    let old = c.args.self.now in
    let new = c.add_nights.new.self in
    let same : ((k : List ℕ) (d : ℕ) → counted old k d < 2 ^ 63
    → counted new k d ≡ counted old k d + one_if (spans kind c.number.result c.number-2.result k d))
    → (k : List ℕ) (d : ℕ) → counted old k d < 2 ^ 63
    → counted new k d ≡ counted old k d + one_if (spans kind c.args.arrive c.args.depart k d) =
    λ held k d few. held k d few ∙ (λ i. counted old k d
    + one_if (spans kind (c.number.ensures.same i) (c.number-2.ensures.same i) k d)) in
    when_ok _ _ _ same c.add_nights.ensures.ok
