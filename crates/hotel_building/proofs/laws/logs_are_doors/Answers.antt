use Rattle.hotel_building.proofs.Logs.{logs_are_doors}
use Rattle.hotel_building.proofs.laws.logs_are_doors.Goals as goal

pub returns : goal.returns
returns c = logs_are_doors
