use Rattle.std.proofs.Common.{◌≡◌, drop}
use Rattle.std.specs.List.{list_all}
use Rattle.hotel_rows.specs.RowTests.{stay_fits}
use Rattle.hotel_rows.proofs.damage.stays.stays_fit.Given as goal

abbrev pub invariant-loop-i : goal.invariant-loop-i
invariant-loop-i l =
    list_all (stay_fits l.stored) l.stored.stay.items ≡ list_all (stay_fits l.stored) (drop l.i l.stored.stay.items)
