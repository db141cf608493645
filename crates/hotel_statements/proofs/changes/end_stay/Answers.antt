use Rattle.hotel_statements.proofs.InTurn.{writes_then, writes_stopped}
use Rattle.hotel_statements.proofs.changes.end_stay.Goals as goal

pub returns-in_err-set_state-clause-makes : goal.returns-in_err-set_state-clause-makes
returns-in_err-set_state-clause-makes g c = writes_stopped _ c.from_residual.result c.from_residual.ensures.0
    c.from_residual.ensures.1 c.in_err-set_state.ensures.makes

pub returns-clause-makes : goal.returns-clause-makes
returns-clause-makes g c = writes_then c.in_ok-set_state.ensures.makes c.free_room.ensures.makes
