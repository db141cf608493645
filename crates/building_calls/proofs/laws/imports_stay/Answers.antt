use Rattle.building_calls.proofs.ImportsStay.{imports_stay}
use Rattle.building_calls.proofs.Stays.{known, known_but}
use Rattle.hotel_building.specs.Calls.{but_for_faults, faultless}
use Rattle.building_calls.proofs.laws.imports_stay.Goals as goal

pub returns-clause-faultless : goal.returns-clause-faultless
returns-clause-faultless g c = imports_stay faultless known g.B.Kept g.B.Books

pub returns-clause-faults : goal.returns-clause-faults
returns-clause-faults g c = imports_stay but_for_faults known_but g.B.Kept g.B.Books
