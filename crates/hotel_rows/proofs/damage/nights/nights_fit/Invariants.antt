use Rattle.std.proofs.Common.{◌≡◌, drop}
use Rattle.std.specs.List.{list_all}
use Rattle.hotel_rows.specs.RowTests.{has_night}
use Rattle.hotel_rows.proofs.damage.nights.nights_fit.Given as goal

abbrev pub invariant-loop-i : goal.invariant-loop-i
invariant-loop-i l =
    list_all (has_night l.stored) l.stored.stay.items ≡ list_all (has_night l.stored) (drop l.i l.stored.stay.items)
