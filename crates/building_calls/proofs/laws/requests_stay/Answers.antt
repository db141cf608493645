use Rattle.building_calls.proofs.RequestsStay.{requests_stay}
use Rattle.building_calls.proofs.Stays.{known, known_but}
use Rattle.hotel_building.specs.Calls.{but_for_faults, faultless}
use Rattle.building_calls.proofs.laws.requests_stay.Goals as goal

pub returns-clause-faultless : goal.returns-clause-faultless
returns-clause-faultless g c = requests_stay faultless known g.B.Kept g.B.Books g.R.Rng.stream

pub returns-clause-faults : goal.returns-clause-faults
returns-clause-faults g c = requests_stay but_for_faults known_but g.B.Kept g.B.Books g.R.Rng.stream
