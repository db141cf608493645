use Rattle.keycard_rules.proofs.CallsTogether as calls
use Rattle.keycard_rules.proofs.laws.calls_leave.Goals as goal

pub returns-clause-together : goal.returns-clause-together
returns-clause-together g c = calls.together g.K.Kept

pub returns-clause-shut : goal.returns-clause-shut
returns-clause-shut g c = calls.shut_fail g.K.Kept
