use Rattle.building_calls.proofs.CallsStay.{calls_stay}
use Rattle.building_calls.proofs.Stays.{known, known_but}
use Rattle.hotel_building.specs.Calls.{but_for_faults, faultless}
use Rattle.building_calls.proofs.laws.calls_stay.Goals as goal

pub returns-clause-faultless : goal.returns-clause-faultless
returns-clause-faultless g c = calls_stay faultless known g.B.Kept g.B.Books

pub returns-clause-faults : goal.returns-clause-faults
returns-clause-faults g c = calls_stay but_for_faults known_but g.B.Kept g.B.Books
