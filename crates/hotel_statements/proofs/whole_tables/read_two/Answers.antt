use Rattle.std.proofs.Common.{inl}
use Rattle.sqlite.specs.Held.{state}
use Rattle.hotel_statements.specs.WholeTables.{BeginsAs}
use Rattle.hotel_statements.proofs.Unread.{err_is}
use Rattle.hotel_statements.proofs.ReadingsInTurn.{not_read, second_failed, pair_read, table_later}
use Rattle.hotel_statements.proofs.whole_tables.read_two.Goals as goal

pub returns-in_err-first : goal.returns-in_err-first
returns-in_err-first g c =
    not_read c.args.version _ _ _ _ (state g.S.Store c.args.conn.now)
    (state g.S.Store c.read_table.new.conn) _ c.from_residual.result
    (err_is c.from_residual.result _ c.from_residual.ensures) inl c.in_err-first.ensures

pub returns-in_err-second : goal.returns-in_err-second
returns-in_err-second g c =
    let whole = c.requires.second in
    second_failed c.args.version _ _ _ _ (state g.S.Store c.args.conn.now) (state g.S.Store c.read_table.new.conn)
    (state g.S.Store c.read_table-2.new.conn) c.in_ok-first.first c.in_ok-first.ensures _ _
    c.from_residual-in_err-second.result
    (err_is c.from_residual-in_err-second.result _ c.from_residual-in_err-second.ensures)
    (table_later c.args.version g.B.PlainRow.statement whole.query whole.asks (BeginsAs g.B.PlainRow.shown))
    c.in_err-second.ensures

pub returns : goal.returns
returns g c =
    pair_read c.args.version _ _ _ _ (state g.S.Store c.args.conn.now) (state g.S.Store c.read_table.new.conn)
    (state g.S.Store c.read_table-2.new.conn) c.in_ok-first.first c.in_ok-first.ensures c.in_ok-second.second
    (λ _ _. tt) c.in_ok-second.ensures
