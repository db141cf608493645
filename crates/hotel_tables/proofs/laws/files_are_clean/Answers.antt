use Rattle.hotel_tables.proofs.Reopened as law
use Rattle.hotel_tables.proofs.laws.files_are_clean.Goals as goal

pub returns : goal.returns
returns g c = law.files_are_clean
