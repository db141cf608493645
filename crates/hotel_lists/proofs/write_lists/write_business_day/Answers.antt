use Rattle.std.proofs.Common.{◌≡◌, [], ◌∷◌, Ok, Some, None, rules, subst}
use Rattle.hotel_lists.specs.{Listings.ListEnds, Listings.listing, LookedLists.one_or_none}
use Rattle.hotel_model.specs.Refinement.ListsOnRows.{business_day_on}
use Rattle.hotel_lists.specs.RowLines.{day_header, day_line}
use Rattle.hotel_lists.proofs.LookedLemmas.{answer_is}
use Rattle.hotel_lists.proofs.write_lists.write_business_day.Goals as goal

pub returns-in-Some-clause-list : goal.returns-in-Some-clause-list
returns-in-Some-clause-list g c = record {
  written = record {
    text = λ honest.
        let found : c.find_day.result ≡ Ok (Some c.in-Some.day) = search rules in
        let same : c.in-Some.day ∷ [] ≡ business_day_on (g.B.Books.rows c.args.books.now) =
        answer_is one_or_none _ _ _ found (c.find_day.ensures.rows honest) in
        subst (λ rows. ListEnds [] (Some (listing day_header day_line rows)) (g.W.Write.contents c.args.writer.now)
        (g.W.Write.contents c.write_found.new.writer) c.write_found.result) same c.write_found.ensures.text;
    books = search rules;
  };
  no_room = search rules;
}

pub returns-in-None-clause-list : goal.returns-in-None-clause-list
returns-in-None-clause-list g c = record {
  written = record {
    text = λ honest.
        let found : c.find_day.result ≡ Ok None = search rules in
        let same : [] ≡ business_day_on (g.B.Books.rows c.args.books.now) =
        answer_is one_or_none _ _ _ found (c.find_day.ensures.rows honest) in
        subst (λ rows. ListEnds [] (Some (listing day_header day_line rows)) (g.W.Write.contents c.args.writer.now)
        (g.W.Write.contents c.write_found-in-None.new.writer) c.write_found-in-None.result) same
        c.write_found-in-None.ensures.text;
    books = search rules;
  };
  no_room = search rules;
}
