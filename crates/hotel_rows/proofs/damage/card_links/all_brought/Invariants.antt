use Rattle.std.proofs.Common.{◌≡◌, drop}
use Rattle.std.specs.List.{list_all}
use Rattle.hotel_rows.specs.RowTests.{is_brought}
use Rattle.hotel_rows.proofs.damage.card_links.all_brought.Given as goal

abbrev pub invariant-loop-i : goal.invariant-loop-i
invariant-loop-i l =
    list_all (is_brought l.stored) l.stored.code.items ≡ list_all (is_brought l.stored) (drop l.i l.stored.code.items)
