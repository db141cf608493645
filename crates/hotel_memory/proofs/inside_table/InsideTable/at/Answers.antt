use Rattle.std.proofs.Common.{rules, ℕ, ◌≡◌, ◌++◌, List, map, filter, ap, sym, ◌∙◌}
use Rattle.hotel_books.proofs.Names.{Included, range_contains, pair_cmp, those_in}
use Rattle.hotel_memory.proofs.OfTables.CardsInside.{part_of_room}
use Rattle.hotel_memory.proofs.inside_table.InsideTable.at.Goals as goal

pub loop-pair-init : goal.loop-pair-init
loop-pair-init c =
    let least : c.unwrap-least.result ≡ 1 = search rules in
    let most : c.unwrap-most.result ≡ 9999999 = search rules in
    let part : ℕ × ℕ → ℕ × ℕ → List ℕ = λ low high. map (λ (p : ℕ × ℕ). p.1)
    (filter (range_contains pair_cmp (Included low) (Included high)) c.self.inside.pairs.keys) in
    ap (λ items. items ++ map (λ (p : ℕ × ℕ). p.1) c.into_iter-pair-iterator.result) c.new-found.ensures.items
    ∙ ap (λ pairs. map (λ (p : ℕ × ℕ). p.1) pairs) (c.into_iter-pair-iterator.ensures.into_iter_gives
    ∙ c.range-pair-items.ensures.between c.new-3.ensures.exhausted)
    ∙ (λ i. part (c.new-3.ensures.start i) (c.new-3.ensures.end i))
    ∙ (λ i. part (c.args.room, least i) (c.args.room, most i))
    ∙ sym (part_of_room c.args.room c.self.inside.pairs.keys c.self.invariant)
    ∙ ap (λ pairs. those_in pairs c.args.room) c.self.view_is
