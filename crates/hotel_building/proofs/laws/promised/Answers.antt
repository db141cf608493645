use Rattle.hotel_building.proofs.Promise.{promised}
use Rattle.hotel_building.proofs.laws.promised.Goals as goal

pub returns : goal.returns
returns c = promised
