use Rattle.hotel_model.proofs.Lifted.Runs.{runs_join, runs_agree, runs_reach}
use Rattle.hotel_model.proofs.laws.runs_join.Goals as goal

pub returns-clause-join : goal.returns-clause-join
returns-clause-join c = runs_join

pub returns-clause-agree : goal.returns-clause-agree
returns-clause-agree c = runs_agree

pub returns-clause-reach : goal.returns-clause-reach
returns-clause-reach c = runs_reach
