use Rattle.hotel_model.proofs.Reissued.{reissues_keep}
use Rattle.hotel_model.proofs.laws.reissues_keep.Goals as goal

pub returns : goal.returns
returns c = reissues_keep
