use Rattle.std.proofs.Common.{◌-◌, length, drop, get_or, subst}
use Rattle.hotel_rows.specs.LinkOwners.{OwnersOf}
use Rattle.hotel_rows.proofs.OfDamage.Placing.{at_back}
use Rattle.hotel_rows.proofs.OfDamage.Links.{no_card}
use Rattle.hotel_rows.proofs.OfDamage.Owned.{owners_more}
use Rattle.hotel_rows.proofs.damage.link_owners.owners_of.Goals as goal

pub loop-k-preserved : goal.loop-k-preserved
loop-k-preserved c =
    let xs = c.args.cards.now in
    let k = c.loop-k.k in
    let plain = get_or xs (length xs - 1 - k) no_card in
    subst (OwnersOf c.add_owner.new.owners.entries) (at_back xs k no_card c.loop-k-test.true)
    (owners_more c.loop-k.owners.entries c.add_owner.new.owners.entries plain
    (drop (length xs - k) xs) c.loop-k.invariant c.in_ok-add_owner.ensures)
