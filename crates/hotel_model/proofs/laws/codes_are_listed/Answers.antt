use Rattle.hotel_model.proofs.Reissued.{codes_are_listed}
use Rattle.hotel_model.proofs.laws.codes_are_listed.Goals as goal

pub returns : goal.returns
returns c = codes_are_listed
