use Rattle.std.proofs.Common.{◌-◌, length, drop, get_or, subst}
use Rattle.hotel_rows.specs.LastCards.{LastsOf}
use Rattle.hotel_rows.proofs.OfDamage.Placing.{at_back}
use Rattle.hotel_rows.proofs.OfDamage.Links.{no_card, lasts_more}
use Rattle.hotel_rows.proofs.damage.card_links.lasts_of.Goals as goal

pub loop-k-preserved : goal.loop-k-preserved
loop-k-preserved c =
    let xs = c.args.cards.now in
    let k = c.loop-k.k in
    let plain = get_or xs (length xs - 1 - k) no_card in
    subst (LastsOf c.add_last.new.lasts.entries) (at_back xs k no_card c.loop-k-test.true)
    (lasts_more c.loop-k.lasts.entries c.add_last.new.lasts.entries plain
    (drop (length xs - k) xs) c.loop-k.invariant c.in_ok-add_last.ensures)
