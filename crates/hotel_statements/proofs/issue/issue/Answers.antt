use Rattle.hotel_statements.proofs.InTurn.{writes_then, writes_stopped, writes_as}
use Rattle.hotel_statements.proofs.Made.Issued.{issue_is}
use Rattle.hotel_statements.proofs.issue.issue.Goals as goal

pub returns-in_err-give_code-clause-makes : goal.returns-in_err-give_code-clause-makes
returns-in_err-give_code-clause-makes g c = writes_stopped _ c.from_residual.result c.from_residual.ensures.0
    c.from_residual.ensures.1 c.in_err-give_code.ensures.makes

pub returns-clause-makes : goal.returns-clause-makes
returns-clause-makes g c =
    writes_as (λ _ _. tt) (issue_is c.args.card.now c.args.room c.args.leaves c.args.codes)
    (writes_then c.in_ok-give_code.ensures.makes c.give_card.ensures.makes)
