use Rattle.hotel_statements.proofs.Joins.{last_taken}
use Rattle.hotel_statements.proofs.from_row.bare_rows.last_of.Goals as goal

pub fits-preserved : goal.fits-preserved
fits-preserved c = last_taken c.args.fits.now c.fits.i c.index-fits-i.result c.fits-test.true c.index-fits-i.is
