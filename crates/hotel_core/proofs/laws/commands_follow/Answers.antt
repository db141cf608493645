use Rattle.hotel_core.proofs.OfCode.Happens as happens
use Rattle.hotel_core.proofs.laws.commands_follow.Goals as goal

pub returns-clause-step : goal.returns-clause-step
returns-clause-step g c = happens.steps_lead g.B.Kept g.B.Books

pub returns-clause-refused : goal.returns-clause-refused
returns-clause-refused g c = happens.refusals_keep_rows g.B.Kept g.B.Books

pub returns-clause-run : goal.returns-clause-run
returns-clause-run g c = happens.runs_follow g.B.Kept g.B.Books
