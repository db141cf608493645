use Rattle.std.proofs.Common.{◌≡◌, take}
use Rattle.hotel_rows.specs.Joined.{fit_of_number}
use Rattle.hotel_statements.proofs.from_row.bare_rows.fit_of.Given as goal

abbrev pub invariant-fits : goal.invariant-fits
invariant-fits l = l.last ≡ fit_of_number (take l.i l.fits) l.number
