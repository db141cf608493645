use Rattle.std.proofs.Common.{◌∙◌}
use Rattle.hotel_statements.proofs.Unread.{not_wanting}
use Rattle.hotel_statements.proofs.from_row.maybe_integer.Goals as goal

pub returns-in-Err-clause-unread : goal.returns-in-Err-clause-unread
returns-in-Err-clause-unread c =
    λ other. c.in-Err.ensures.kind (not_wanting c.in-Err.error (λ e. other (c.fault_of.ensures ∙ e)))
