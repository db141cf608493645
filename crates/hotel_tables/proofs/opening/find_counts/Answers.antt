use Rattle.std.proofs.Common.{subst, sym, Err}
use Rattle.sqlite.specs.Held.{state}
use Rattle.hotel_statements.specs.WholeTables.{ReadsTo, AreTablesRead}
use Rattle.hotel_tables.specs.Opening.{Opens}
use Rattle.hotel_tables.proofs.Opened.{opens_to, opens_not}
use Rattle.hotel_tables.proofs.opening.find_counts.Goals as goal

pub returns-in-Ok : goal.returns-in-Ok
returns-in-Ok g c =
    let version = c.args.version in
    let old = state g.S.Store c.args.conn.now in
    let new = state g.S.Store c.read_tables.new.conn in
    opens_to old new c.in-Ok.tables c.found_in.result
    (subst (ReadsTo version (AreTablesRead version) old new) c.in-Ok.is c.read_tables.ensures)
    c.found_in.ensures.ok c.found_in.ensures.err

pub returns-in-Err : goal.returns-in-Err
returns-in-Err g c =
    let version = c.args.version in
    let old = state g.S.Store c.args.conn.now in
    let new = state g.S.Store c.read_tables.new.conn in
    let reads = subst (ReadsTo version (AreTablesRead version) old new) c.in-Err.is c.read_tables.ensures in
    subst (λ why. Opens version old new (Err why)) (sym c.open_fault.ensures)
    (opens_not version old new c.in-Err.why reads)
