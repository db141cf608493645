use Rattle.std.proofs.Common.{sym, subst}
use Rattle.hotel_statements.specs.declared.version.Layout.{Layout}
use Rattle.hotel_statements.specs.Statements.{MakesBy, completes}
use Rattle.hotel_statements.specs.Upgrade.{Completes}
use Rattle.hotel_statements.proofs.InTurn.{made_as}
use Rattle.hotel_statements.proofs.Upgraded.{indexes_made}
use Rattle.hotel_statements.proofs.upgrade.complete.Goals as goal

pub returns-in-Nine-clause-makes : goal.returns-in-Nine-clause-makes
returns-in-Nine-clause-makes g c =
    let rooms = c.args.rooms.now in
    subst (λ (layout : Layout). MakesBy g.S.Store (completes layout rooms) (Completes layout rooms)
    c.args.tx.now.conn.now c.add_indexes.new.tx.conn.now c.add_indexes.result)
    (sym c.in-Nine.is) (made_as (indexes_made rooms c.in-Nine.count) c.add_indexes.ensures.makes)
