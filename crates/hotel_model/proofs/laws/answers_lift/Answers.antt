use Rattle.hotel_model.proofs.{Lifted.LiftAll.answers_lift, Lifted.ListRows.lists_lift}
use Rattle.hotel_model.proofs.laws.answers_lift.Goals as goal

pub returns-clause-answers : goal.returns-clause-answers
returns-clause-answers c = answers_lift

pub returns-clause-lists : goal.returns-clause-lists
returns-clause-lists c = lists_lift
