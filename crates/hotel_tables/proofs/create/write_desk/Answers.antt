use Rattle.hotel_statements.specs.Schema.{no_schema, desk_schema}
use Rattle.hotel_statements.specs.NewDesk.{IfOpenBare}
use Rattle.hotel_statements.proofs.InTurn.{runs_on, made_then, made_stopped}
use Rattle.hotel_tables.proofs.create.write_desk.Goals as goal

pub returns-in_err-make_first-clause-makes : goal.returns-in_err-make_first-clause-makes
returns-in_err-make_first-clause-makes g c =
    made_stopped _ c.from_residual.result c.from_residual.ensures.0 c.from_residual.ensures.1
    c.in_err-make_first.ensures.makes

pub returns-in_err-make_last-clause-makes : goal.returns-in_err-make_last-clause-makes
returns-in_err-make_last-clause-makes g c =
    made_stopped _ c.from_residual-in_err-make_last.result
    c.from_residual-in_err-make_last.ensures.0 c.from_residual-in_err-make_last.ensures.1
    (runs_on c.in_ok-make_first.ensures.makes c.in_err-make_last.ensures.makes)

pub returns-clause-makes : goal.returns-clause-makes
returns-clause-makes g c =
    made_then (λ bare made had. made (λ _. bare had))
    (made_then {R = IfOpenBare no_schema desk_schema} (λ bare made had. made (λ _. bare had))
    c.in_ok-make_first.ensures.makes c.in_ok-make_last.ensures.makes) c.enter_meta.ensures.makes
