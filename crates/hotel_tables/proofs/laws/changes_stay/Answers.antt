use Rattle.sqlite.specs.Held.{state}
use Rattle.hotel_statements.specs.Tables.{rows_in}
use Rattle.hotel_tables.specs.{Applied.LeavesChange, Causes.ChangeFails}
use Rattle.hotel_tables.proofs.ChangesKept.{calls_stay}
use Rattle.hotel_tables.proofs.laws.changes_stay.Goals as goal

pub returns : goal.returns
returns g c = λ old new stops clean before.
    calls_stay _ (record {
      rows = λ b. rows_in (state g.S.Store b.conn).now.trees;
      leaves_change = λ change a b. LeavesChange change (state g.S.Store a.conn) (state g.S.Store b.conn);
      change_fails = λ change a b. ChangeFails g.S.Store change a.conn b.conn;
    }) (λ b. state g.S.Store b.conn) (λ a kept. kept) (λ a b none. none) (λ a b same. same)
    (λ change a b stop. stop) stops.asked old new stops.through clean before
