use Rattle.hotel_statements.proofs.InTurn.{writes_then, writes_stopped}
use Rattle.hotel_statements.proofs.refits.replace_lock.Goals as goal

pub returns-in_err-insert_code-clause-makes : goal.returns-in_err-insert_code-clause-makes
returns-in_err-insert_code-clause-makes g c = writes_stopped _ c.from_residual.result c.from_residual.ensures.0
    c.from_residual.ensures.1 c.in_err-insert_code.ensures.makes

pub returns-in_err-set_refitted-clause-makes : goal.returns-in_err-set_refitted-clause-makes
returns-in_err-set_refitted-clause-makes g c =
    writes_stopped _ c.from_residual-in_err-set_refitted.result c.from_residual-in_err-set_refitted.ensures.0
    c.from_residual-in_err-set_refitted.ensures.1
    (writes_then c.in_ok-insert_code.ensures.makes c.in_err-set_refitted.ensures.makes)

pub returns-clause-makes : goal.returns-clause-makes
returns-clause-makes g c = writes_then (writes_then c.in_ok-insert_code.ensures.makes
    c.in_ok-set_refitted.ensures.makes) c.delete_insides.ensures.makes
