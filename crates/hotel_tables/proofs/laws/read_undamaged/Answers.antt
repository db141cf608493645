use Rattle.hotel_tables.proofs.Reread as law
use Rattle.hotel_tables.proofs.laws.read_undamaged.Goals as goal

pub returns : goal.returns
returns c = law.read_undamaged
