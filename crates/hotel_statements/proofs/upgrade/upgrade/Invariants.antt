use Rattle.std.proofs.Common.{◌≡◌, take, Ok}
use Rattle.hotel_statements.specs.Statements.{MakesBy, makes_second}
use Rattle.hotel_statements.proofs.Upgraded.{GivesSoFar}
use Rattle.hotel_statements.proofs.upgrade.upgrade.Given as goal

-- the transaction is on the same connection, and the rooms so far have their fits
abbrev pub invariant-rooms : goal.invariant-rooms
invariant-rooms g l =
    (l.tx.conn.ghost_name ≡ l.fn.tx.conn.ghost_name)
    × MakesBy g.S.Store (makes_second (take l.i l.rooms)) (GivesSoFar l.rooms l.i) l.fn.tx.conn.now l.tx.conn.now
    (Ok tt)
