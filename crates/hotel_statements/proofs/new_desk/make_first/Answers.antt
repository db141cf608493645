use Rattle.hotel_statements.proofs.Makers.{make_meta, make_kind, make_room, make_stay, bare_first, bare_then}
use Rattle.hotel_statements.proofs.InTurn.{runs_on, made_stopped}
use Rattle.hotel_statements.proofs.new_desk.make_first.Goals as goal

pub returns-in_err-make-clause-makes : goal.returns-in_err-make-clause-makes
returns-in_err-make-clause-makes g c =
    made_stopped _ c.from_residual.result c.from_residual.ensures.0
    c.from_residual.ensures.1 c.in_err-make.ensures.makes

pub returns-in_err-make-2-clause-makes : goal.returns-in_err-make-2-clause-makes
returns-in_err-make-2-clause-makes g c =
    made_stopped _ c.from_residual-in_err-make-2.result c.from_residual-in_err-make-2.ensures.0
    c.from_residual-in_err-make-2.ensures.1 (runs_on c.in_ok-make.ensures.makes c.in_err-make-2.ensures.makes)

pub returns-in_err-make-3-clause-makes : goal.returns-in_err-make-3-clause-makes
returns-in_err-make-3-clause-makes g c =
    made_stopped _ c.from_residual-in_err-make-3.result
    c.from_residual-in_err-make-3.ensures.0 c.from_residual-in_err-make-3.ensures.1
    (runs_on (runs_on c.in_ok-make.ensures.makes c.in_ok-make-2.ensures.makes) c.in_err-make-3.ensures.makes)

pub returns-clause-makes : goal.returns-clause-makes
returns-clause-makes g c =
    bare_then make_stay
    (bare_then make_room
    (bare_then make_kind (bare_first make_meta c.in_ok-make.ensures.makes) c.in_ok-make-2.ensures.makes)
    c.in_ok-make-3.ensures.makes) c.make-4.ensures.makes
