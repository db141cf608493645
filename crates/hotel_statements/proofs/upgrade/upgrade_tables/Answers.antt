use Rattle.hotel_statements.specs.NewDesk.{MakesNew}
use Rattle.hotel_statements.proofs.InTurn.{made_as, made_kept, made_then, made_stopped}
use Rattle.hotel_statements.proofs.Upgraded.{version_then}
use Rattle.hotel_statements.proofs.upgrade.upgrade_tables.Goals as goal

pub returns-in_err-make_new-clause-makes : goal.returns-in_err-make_new-clause-makes
returns-in_err-make_new-clause-makes g c =
    made_stopped _ c.from_residual.result c.from_residual.ensures.0
    c.from_residual.ensures.1 c.in_err-make_new.ensures.makes

pub returns-clause-makes : goal.returns-clause-makes
returns-clause-makes g c =
    made_then version_then (made_kept (made_as {R = MakesNew} (λ made. made.0) c.in_ok-make_new.ensures.makes))
    c.set_version.ensures.makes
