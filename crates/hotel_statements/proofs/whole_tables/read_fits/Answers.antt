use Rattle.hotel_statements.proofs.Whole.{fit_whole}
use Rattle.hotel_statements.proofs.whole_tables.read_fits.Goals as goal

pub read_table-requires-clause-whole : goal.read_table-requires-clause-whole
read_table-requires-clause-whole g c = fit_whole
