use Rattle.hotel_model.proofs.Invariants.Assurance.{assured}
use Rattle.hotel_model.proofs.laws.assured.Goals as goal

pub returns : goal.returns
returns c = assured
