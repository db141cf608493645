use Rattle.building_calls.proofs.ScriptsStay.{scripts_stay}
use Rattle.building_calls.proofs.Stays.{known, known_but}
use Rattle.hotel_building.specs.Calls.{but_for_faults, faultless}
use Rattle.building_calls.proofs.laws.scripts_stay.Goals as goal

pub returns-clause-faultless : goal.returns-clause-faultless
returns-clause-faultless g c = scripts_stay faultless known g.B.Kept g.B.Books g.R.Rng.stream g.W.Write.contents

pub returns-clause-faults : goal.returns-clause-faults
returns-clause-faults g c =
    scripts_stay but_for_faults known_but g.B.Kept g.B.Books g.R.Rng.stream g.W.Write.contents
