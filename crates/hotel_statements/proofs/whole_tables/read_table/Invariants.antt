use Rattle.std.proofs.Common.{◌≡◌, map}
use Rattle.hotel_statements.proofs.Readings.{IsPartRead}
use Rattle.hotel_statements.proofs.whole_tables.read_table.Given as goal

abbrev pub invariant-rows : goal.invariant-rows
invariant-rows g l =
    (l.rows.conn.ghost_name ≡ l.initial.rows.conn.ghost_name)
    × IsPartRead g.S.Store l.fn.version g.L.PlainRow.statement l.fn.conn l.rows.conn.now
    (λ rows. map g.L.PlainRow.shown l.plain_rows.items ≡ map g.L.PlainRow.cut rows)
