use Rattle.hotel_model.proofs.InsidersListed.{insiders_are_listed}
use Rattle.hotel_model.proofs.laws.insiders_are_listed.Goals as goal

pub returns : goal.returns
returns c = insiders_are_listed
