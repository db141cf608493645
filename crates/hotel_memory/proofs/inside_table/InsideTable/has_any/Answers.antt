use Rattle.std.proofs.Common.{rules, ℕ, ◌≡◌, List, map, filter, ap, sym, ◌∙◌, not}
use Rattle.hotel_books.proofs.Names.{Included, range_contains, pair_cmp, those_in, are_none}
use Rattle.hotel_memory.proofs.OfTables.CardsInside.{part_of_room, any_first}
use Rattle.hotel_memory.proofs.inside_table.InsideTable.has_any.Goals as goal

pub returns : goal.returns
returns c =
    let least : c.unwrap-least.result ≡ 1 = search rules in
    let most : c.unwrap-most.result ≡ 9999999 = search rules in
    let part : ℕ × ℕ → ℕ × ℕ → List ℕ = λ low high. map (λ (p : ℕ × ℕ). p.1)
    (filter (range_contains pair_cmp (Included low) (Included high)) c.self.inside.pairs.keys) in
    c.is_some.ensures
    ∙ any_first _ c.range-pairs.result c.next.new.self c.next.result c.next.ensures.steps
    ∙ ap (λ numbers. not (are_none numbers)) (
    ap (λ pairs. map (λ (p : ℕ × ℕ). p.1) pairs) (c.range-pairs.ensures.between c.new-3.ensures.exhausted)
    ∙ (λ i. part (c.new-3.ensures.start i) (c.new-3.ensures.end i))
    ∙ (λ i. part (c.args.room, least i) (c.args.room, most i))
    ∙ sym (part_of_room c.args.room c.self.inside.pairs.keys c.self.invariant)
    ∙ ap (λ pairs. those_in pairs c.args.room) c.self.view_is)
