use Rattle.hotel_statements.proofs.Makers.{make_code, make_card, bare_first, bare_then}
use Rattle.hotel_statements.proofs.InTurn.{runs_on, made_then, made_stopped}
use Rattle.hotel_statements.proofs.new_desk.make_last.Goals as goal

pub returns-in_err-make-clause-makes : goal.returns-in_err-make-clause-makes
returns-in_err-make-clause-makes g c =
    made_stopped _ c.from_residual.result c.from_residual.ensures.0
    c.from_residual.ensures.1 c.in_err-make.ensures.makes

pub returns-in_err-make-2-clause-makes : goal.returns-in_err-make-2-clause-makes
returns-in_err-make-2-clause-makes g c =
    made_stopped _ c.from_residual-in_err-make-2.result c.from_residual-in_err-make-2.ensures.0
    c.from_residual-in_err-make-2.ensures.1 (runs_on c.in_ok-make.ensures.makes c.in_err-make-2.ensures.makes)

pub returns-clause-makes : goal.returns-clause-makes
returns-clause-makes g c =
    made_then (λ bare made had. made (λ _. bare had))
    (bare_then make_card (bare_first make_code c.in_ok-make.ensures.makes) c.in_ok-make-2.ensures.makes)
    c.make_of_locks.ensures.makes
