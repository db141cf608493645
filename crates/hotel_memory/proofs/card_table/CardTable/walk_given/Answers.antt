use Rattle.std.proofs.Common.{◌≡◌, ◌==◌, filter, ap, subst, sym, ◌∙◌}
use Rattle.hotel_books.specs.Books.Walks.{Hands}
use Rattle.hotel_books.proofs.Names.{values_of}
use Rattle.hotel_memory.proofs.OfTables.RowsByPlace.{values_by_place}
use Rattle.hotel_memory.proofs.card_table.CardTable.walk_given.Goals as goal

pub returns-clause-hands : goal.returns-clause-hands
returns-clause-hands g c =
    let same : c.as_slice.result.now ≡ values_of c.args.self.now =
    c.as_slice.ensures.value ∙ sym (values_by_place 1 c.self.inside.cards.items) ∙ ap values_of c.self.view_is in
    subst (λ cards. Hands g.S.Sink.after g.S.Sink.after_stop (filter (λ card. card.party == c.args.party) cards)
    c.args.sink.now c.walk_given.new.sink c.walk_given.result) same c.walk_given.ensures.hands
