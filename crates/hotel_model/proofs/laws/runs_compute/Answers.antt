use Rattle.hotel_model.proofs.Lifted.Computed.{runs_compute}
use Rattle.hotel_model.proofs.laws.runs_compute.Goals as goal

pub returns : goal.returns
returns c = runs_compute
