use Rattle.hotel_statements.proofs.Unread.{cause_passed, unread_at}
use Rattle.hotel_statements.proofs.look.read_all.Goals as goal

pub returns-in_err-value-clause-unread : goal.returns-in_err-value-clause-unread
returns-in_err-value-clause-unread g c = cause_passed c.from_residual.result _ c.from_residual.ensures (λ other.
    unread_at g.R.FromRow.is_readable c.args.rows.now c.rows.i c.index-rows-i.result c.rows-test.true c.index-rows-i.is
    (c.in_err-value.ensures.unread other))
