use Rattle.hotel_statements.proofs.InTurn.{writes_then, writes_stopped}
use Rattle.hotel_statements.proofs.issue.give_card.Goals as goal

pub returns-in_err-set_issued-clause-makes : goal.returns-in_err-set_issued-clause-makes
returns-in_err-set_issued-clause-makes g c = writes_stopped _ c.from_residual.result c.from_residual.ensures.0
    c.from_residual.ensures.1 c.in_err-set_issued.ensures.makes

pub returns-in_err-insert_card-clause-makes : goal.returns-in_err-insert_card-clause-makes
returns-in_err-insert_card-clause-makes g c = writes_stopped _ c.from_residual-in_err-insert_card.result
    c.from_residual-in_err-insert_card.ensures.0 c.from_residual-in_err-insert_card.ensures.1
    (writes_then c.in_ok-set_issued.ensures.makes c.in_err-insert_card.ensures.makes)

pub returns-clause-makes : goal.returns-clause-makes
returns-clause-makes g c = writes_then (writes_then c.in_ok-set_issued.ensures.makes c.in_ok-insert_card.ensures.makes)
    c.set_state.ensures.makes
