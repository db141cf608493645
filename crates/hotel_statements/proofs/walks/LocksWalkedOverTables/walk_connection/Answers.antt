use Rattle.sqlite.specs.Held.{state}
use Rattle.hotel_statements.proofs.Statements.Walks as walks
use Rattle.hotel_statements.proofs.OfWalks.Locked.{locks_said}
use Rattle.hotel_statements.proofs.walks.LocksWalkedOverTables.walk_connection.Goals as goal

pub walk-requires-clause-asks : goal.walk-requires-clause-asks
walk-requires-clause-asks g c = (_, walks.walk_locks)

pub returns : goal.returns
returns g c =
    let old = state g.S.Store c.args.conn.now in
    c.walk.ensures _ (
      _,
      walks.walk_locks,
      λ kept all. locks_said old.now.trees (c.requires.books.desk kept).tables (c.requires.sound kept) all,
    )
