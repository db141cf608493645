use Rattle.std.proofs.Common.{◌≡◌, drop}
use Rattle.std.specs.List.{list_all}
use Rattle.hotel_rows.specs.FitRuns.{fitted_as_due}
use Rattle.hotel_rows.proofs.damage.fits.rooms_are_fitted.Given as goal

abbrev pub invariant-loop-i : goal.invariant-loop-i
invariant-loop-i l = list_all (fitted_as_due l.fits.runs.entries) l.stored.room.items
    ≡ list_all (fitted_as_due l.fits.runs.entries) (drop l.i l.stored.room.items)
