use Rattle.std.proofs.Common.{◌≡◌, drop}
use Rattle.std.specs.List.{list_all}
use Rattle.hotel_rows.specs.RowTests.{has_owner}
use Rattle.hotel_rows.proofs.damage.card_links.all_have_owners.Given as goal

abbrev pub invariant-loop-i : goal.invariant-loop-i
invariant-loop-i l =
    list_all (has_owner l.stored) l.stored.room.items ≡ list_all (has_owner l.stored) (drop l.i l.stored.room.items)
