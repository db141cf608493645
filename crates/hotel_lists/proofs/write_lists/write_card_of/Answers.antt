use Rattle.std.proofs.Common.{◌≡◌, [], Ok, Some, rules, subst, ◌∙◌}
use Rattle.hotel_lists.specs.{Listings.ListEnds, Listings.listing}
use Rattle.hotel_model.specs.Refinement.ListsOnRows.{card_rows_on}
use Rattle.hotel_lists.specs.RowLines.{card_header, card_line}
use Rattle.hotel_lists.proofs.LookedLemmas.{answer_is}
use Rattle.hotel_lists.proofs.write_lists.write_card_of.Goals as goal

pub returns-clause-list : goal.returns-clause-list
returns-clause-list g c = record {
  written = record {
    text = λ honest.
        let found : c.find_card.result ≡ Ok c.in_ok-cards.cards = search rules in
        let same : c.as_slice.result.now ≡ card_rows_on (g.B.Books.rows c.args.books.now) c.args.number =
        c.as_slice.ensures.value ∙ answer_is (λ cards. cards.items) _ _ _ found (c.find_card.ensures.rows honest) in
        subst (λ rows. ListEnds [] (Some (listing card_header card_line rows)) (g.W.Write.contents c.args.writer.now)
        (g.W.Write.contents c.write_found.new.writer) c.write_found.result) same c.write_found.ensures.text;
    books = search rules;
  };
  no_room = search rules;
}
