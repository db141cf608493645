use Rattle.std.proofs.Common.{◌≡◌, length, ap, sym, ◌∙◌, arith, nat_cmp}
use Rattle.hotel_books.proofs.Names.{enumerate_from, insert_entry}
use Rattle.hotel_memory.proofs.OfTables.RowsByPlace.{put_last}
use Rattle.std.proofs.lemmas.List.FromFn.{length-enumerate_from}
use Rattle.hotel_memory.proofs.card_table.CardTable.push.Goals as goal

pub returns-clause-ok : goal.returns-clause-ok
returns-clause-ok c =
    let cards = c.self.inside.cards.items in
    let many : length c.args.self.now ≡ length cards =
    sym (ap (λ es. length es) c.self.view_is) ∙ length-enumerate_from 1 cards in
    ap (λ xs. enumerate_from 1 xs) c.in-Ok.ensures.items
    ∙ put_last 1 cards c.args.card.now.number c.args.card.now (omega (arith, c.requires, many))
    ∙ ap (λ es. insert_entry nat_cmp es c.args.card.now.number c.args.card.now) c.self.view_is
