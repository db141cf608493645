use Rattle.std.proofs.Common.{◌∙◌}
use Rattle.hotel_statements.proofs.Unread.{not_wanting}
use Rattle.hotel_statements.proofs.whole_tables.add_plain.Goals as goal

pub returns-in-Err-clause-unread : goal.returns-in-Err-clause-unread
returns-in-Err-clause-unread g c = λ other begins.
    c.in-Err.ensures.unread
    (not_wanting c.in-Err.error (λ e. other (c.fault_of.ensures ∙ e))) begins.0 begins.1 begins.2
