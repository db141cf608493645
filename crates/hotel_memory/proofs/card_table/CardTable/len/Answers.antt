use Rattle.std.proofs.Common.{◌≡◌, length, ap, sym, ◌∙◌, arith}
use Rattle.std.proofs.lemmas.List.FromFn.{length-enumerate_from}
use Rattle.hotel_memory.proofs.card_table.CardTable.len.Goals as goal

pub returns : goal.returns
returns c =
    let cards = c.self.inside.cards.items in
    let many : length c.args.self.now ≡ length cards =
    sym (ap (λ es. length es) c.self.view_is) ∙ length-enumerate_from 1 cards in
    omega (arith, c.len.ensures, many)
