use Rattle.sqlite.proofs.Callers as law
use Rattle.hotel_tables.proofs.laws.memory_is_clean.Goals as goal

pub returns : goal.returns
returns c = law.memory_is_clean
