use Rattle.hotel_building.proofs.RunsStay.{runs_stay, runs_stay_but, may_all_be_asked}
use Rattle.hotel_building.proofs.NotesTold.{notes_may_be_asked}
use Rattle.hotel_building.proofs.laws.runs_stay.Goals as goal

pub returns-clause-faultless : goal.returns-clause-faultless
returns-clause-faultless c = runs_stay

pub returns-clause-faults : goal.returns-clause-faults
returns-clause-faults c = runs_stay_but

pub returns-clause-asked : goal.returns-clause-asked
returns-clause-asked c = may_all_be_asked

pub returns-clause-notes : goal.returns-clause-notes
returns-clause-notes c = notes_may_be_asked
