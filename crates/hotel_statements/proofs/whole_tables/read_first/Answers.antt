use Rattle.std.proofs.Common.{inl}
use Rattle.sqlite.specs.Held.{state}
use Rattle.hotel_statements.specs.PlainRows.{room_shown, stay_shown}
use Rattle.hotel_statements.specs.WholeTables.{BeginsAs}
use Rattle.hotel_statements.specs.Texts as text
use Rattle.hotel_statements.proofs.Unread.{err_is}
use Rattle.hotel_statements.proofs.ReadingsInTurn.{not_read, second_failed, pair_read, table_later, either_later}
use Rattle.hotel_statements.proofs.Whole.{meta_whole, kind_whole, room_whole, stay_whole}
use Rattle.hotel_statements.proofs.whole_tables.read_first.Goals as goal

pub read_two-requires-clause-first : goal.read_two-requires-clause-first
read_two-requires-clause-first g c = meta_whole c.args.version

pub read_two-requires-clause-second : goal.read_two-requires-clause-second
read_two-requires-clause-second g c = kind_whole c.args.version

pub read_two-requires-2-clause-first : goal.read_two-requires-2-clause-first
read_two-requires-2-clause-first g c = room_whole c.args.version

pub read_two-requires-2-clause-second : goal.read_two-requires-2-clause-second
read_two-requires-2-clause-second g c = stay_whole c.args.version

pub returns-in_err-first : goal.returns-in_err-first
returns-in_err-first g c =
    not_read c.args.version _ _ _ _ (state g.S.Store c.args.conn.now)
    (state g.S.Store c.read_two.new.conn) _ c.from_residual.result
    (err_is c.from_residual.result _ c.from_residual.ensures) inl c.in_err-first.ensures

pub returns-in_err-second : goal.returns-in_err-second
returns-in_err-second g c =
    let version = c.args.version in
    let one = room_whole version in
    let two = stay_whole version in
    second_failed version _ _ _ _ (state g.S.Store c.args.conn.now) (state g.S.Store c.read_two.new.conn)
    (state g.S.Store c.read_two-2.new.conn) c.in_ok-first.first c.in_ok-first.ensures _ _
    c.from_residual-in_err-second.result
    (err_is c.from_residual-in_err-second.result _ c.from_residual-in_err-second.ensures)
    (either_later version _ _ (table_later version text.read_room one.query one.asks (BeginsAs room_shown))
    (table_later version text.read_stay two.query two.asks (BeginsAs stay_shown)))
    c.in_err-second.ensures

pub returns : goal.returns
returns g c =
    pair_read c.args.version _ _ _ _ (state g.S.Store c.args.conn.now) (state g.S.Store c.read_two.new.conn)
    (state g.S.Store c.read_two-2.new.conn) c.in_ok-first.first c.in_ok-first.ensures c.in_ok-second.second
    (λ _ _. tt) c.in_ok-second.ensures
