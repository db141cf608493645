use Rattle.std.proofs.Common.{◌≡◌, drop}
use Rattle.std.specs.List.{list_all}
use Rattle.hotel_rows.specs.RowTests.{has_last}
use Rattle.hotel_rows.proofs.damage.card_links.all_have_lasts.Given as goal

abbrev pub invariant-loop-i : goal.invariant-loop-i
invariant-loop-i l =
    list_all (has_last l.stored) l.stored.stay.items ≡ list_all (has_last l.stored) (drop l.i l.stored.stay.items)
