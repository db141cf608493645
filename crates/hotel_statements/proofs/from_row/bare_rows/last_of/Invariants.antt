use Rattle.std.proofs.Common.{◌≡◌, take}
use Rattle.hotel_model.specs.Rows.{last_fit}
use Rattle.hotel_statements.proofs.from_row.bare_rows.last_of.Given as goal

abbrev pub invariant-fits : goal.invariant-fits
invariant-fits l = l.last ≡ last_fit (take l.i l.fits)
