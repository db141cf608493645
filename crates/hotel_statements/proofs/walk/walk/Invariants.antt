use Rattle.std.proofs.Common.{◌≡◌}
use Rattle.sqlite.specs.Values.{bound}
use Rattle.hotel_statements.proofs.Walked.{IsUnderWay}
use Rattle.hotel_statements.proofs.walk.walk.Given as goal

abbrev pub invariant-rows : goal.invariant-rows
invariant-rows g l =
    (l.rows.conn.ghost_name ≡ l.initial.rows.conn.ghost_name)
    × IsUnderWay g.S.Store (g.F.RowReader.says l.fn.reader) g.K.Sink.after l.fn.text
    (bound l.fn.params) l.fn.conn l.rows.conn.now l.fn.sink l.sink l._i
