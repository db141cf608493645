use Rattle.hotel_building.proofs.Faults.{faults_harm_their_doors, no_fault_is_one}
use Rattle.hotel_building.proofs.CallsBut.{calls_stay_but}
use Rattle.hotel_building.proofs.laws.faults_harm_their_doors.Goals as goal

pub returns-clause-faults : goal.returns-clause-faults
returns-clause-faults c = faults_harm_their_doors

pub returns-clause-none : goal.returns-clause-none
returns-clause-none c = no_fault_is_one

pub returns-clause-calls : goal.returns-clause-calls
returns-clause-calls c = calls_stay_but
