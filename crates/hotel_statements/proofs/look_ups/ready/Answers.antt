use Rattle.std.proofs.Common.{[], ◌∷◌}
use Rattle.sqlite.specs.Held.{state}
use Rattle.hotel_statements.specs.Values.{int}
use Rattle.hotel_statements.proofs.Readied.{is_not_ready}
use Rattle.hotel_statements.proofs.look_ups.ready.Goals as goal

pub returns-in-Err : goal.returns-in-Err
returns-in-Err g c =
    is_not_ready (state g.S.Store c.args.conn.now) (state g.S.Store c.prepare.new.self) c.requires
    c.prepare.ensures.mode c.prepare.ensures.survives c.in-Err.error (λ clean. c.in-Err.ensures.err clean (int 1 ∷ []))
    c.fault_of.result c.fault_of.ensures
