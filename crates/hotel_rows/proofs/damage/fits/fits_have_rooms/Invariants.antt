use Rattle.std.proofs.Common.{◌≡◌, drop}
use Rattle.std.specs.List.{list_all}
use Rattle.hotel_rows.specs.Stored.{rows_of}
use Rattle.hotel_rows.specs.RowTests.{has_room}
use Rattle.hotel_rows.proofs.damage.fits.fits_have_rooms.Given as goal

abbrev pub invariant-loop-i : goal.invariant-loop-i
invariant-loop-i l = list_all (has_room (rows_of l.stored)) l.fits
    ≡ list_all (has_room (rows_of l.stored)) (drop l.i l.fits)
