use Rattle.hotel_statements.proofs.Makers.{new_made}
use Rattle.hotel_statements.proofs.InTurn.{made_then, made_stopped}
use Rattle.hotel_statements.proofs.new_desk.make_new.Goals as goal

pub returns-in_err-make-clause-makes : goal.returns-in_err-make-clause-makes
returns-in_err-make-clause-makes g c =
    made_stopped _ c.from_residual.result c.from_residual.ensures.0
    c.from_residual.ensures.1 c.in_err-make.ensures.makes

pub returns-clause-makes : goal.returns-clause-makes
returns-clause-makes g c =
    made_then (λ one more. new_made _ _ _ one.1 more) c.in_ok-make.ensures.makes c.add_indexes.ensures.makes
