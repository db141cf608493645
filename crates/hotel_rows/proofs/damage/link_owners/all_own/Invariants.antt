use Rattle.std.proofs.Common.{◌≡◌, drop}
use Rattle.std.specs.List.{list_all}
use Rattle.hotel_rows.specs.LinkOwners.{is_own}
use Rattle.hotel_rows.proofs.damage.link_owners.all_own.Given as goal

abbrev pub invariant-loop-i : goal.invariant-loop-i
invariant-loop-i l = list_all (is_own l.stored.card.items) l.stored.card.items
    ≡ list_all (is_own l.stored.card.items) (drop l.i l.stored.card.items)
