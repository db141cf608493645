use Rattle.std.proofs.Common.{◌≡◌, ◌≤◌, Ok}
use Rattle.hotel_statements.specs.declared.version.TheConstants.{INDEXES}
use Rattle.hotel_statements.specs.Statements.{MakesBy, makes_indexes}
use Rattle.hotel_statements.proofs.Makers.{AddsSoFar}
use Rattle.hotel_statements.proofs.indexes.add_indexes.Given as goal

-- the transaction is on the same connection, and those so far are made
abbrev pub invariant-indexes : goal.invariant-indexes
invariant-indexes g l =
    (l.tx.conn.ghost_name ≡ l.fn.tx.conn.ghost_name) × (l.first ≤ l.at) × (l.at ≤ INDEXES)
    × MakesBy g.S.Store (makes_indexes l.first l.at) (AddsSoFar l.first l.at) l.fn.tx.conn.now l.tx.conn.now (Ok tt)
