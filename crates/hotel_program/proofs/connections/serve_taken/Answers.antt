-- The connection is closed with its callers as they are left.
use Rattle.std.proofs.Common.{◌∙◌, Bool, true, false, None, Some, Result, Err, ap, refl, subst, sym}
use Rattle.hotel_http.specs.declared.serve.Exchange.{Exchange}
use Rattle.hotel_http.specs.declared.serve.ServeFault.{ServeFault}
use Rattle.hotel_http.specs.Serve.{served_in}
use Rattle.hotel_program.specs.Connections.{Limits, connection_end}
use Rattle.hotel_program.specs.declared.faults.Fault.{Fault}
use Rattle.hotel_program.proofs.connections.serve_taken.Goals as goal

pub returns-then-not-set_limits-clause-ends : goal.returns-then-not-set_limits-clause-ends
returns-then-not-set_limits-clause-ends g c =
    let limits = c.set_limits.ensures.limits in
    let callers : g.row.L-Caller.Denot × g.row.L-Caller.Denot = (c.set_limits.new.reads, c.set_limits.new.writes) in (
      None,
      refl,
      (
        c.caller-reads.result,
        c.caller-writes.result,
        c.caller-reads.new.self,
        c.caller-writes.new.self,
        c.caller-reads.ensures.caller_made,
        c.caller-writes.ensures.caller_made,
        false,
        callers,
        callers,
        subst (λ (b : Bool). Limits g.L.Caller.Caller c.args.stream
            (c.caller-reads.result, c.caller-writes.result) b callers)
            c.if-not-set_limits.true
            (limits.0, limits.1, limits.2, c.set_limits.ensures.unread, c.set_limits.ensures.unwritten),
        (refl, refl, refl, refl, refl),
        c.close.ensures.closed,
      ),
    )

pub returns-in-Ok-clause-ends : goal.returns-in-Ok-clause-ends
returns-in-Ok-clause-ends g c =
    let limits = c.set_limits.ensures.limits in
    let callers : g.row.L-Caller.Denot × g.row.L-Caller.Denot = (c.set_limits.new.reads, c.set_limits.new.writes) in
    let end = c.serve_limited-end.result.end in (
      Some (served_in end),
      sym (ap (λ (x : Result Exchange ServeFault). connection_end (Some (served_in x))) c.in-Ok.is),
      (
        c.caller-reads.result,
        c.caller-writes.result,
        c.caller-reads.new.self,
        c.caller-writes.new.self,
        c.caller-reads.ensures.caller_made,
        c.caller-writes.ensures.caller_made,
        true,
        callers,
        (c.serve_limited-end.result.reads, c.serve_limited-end.result.writes),
        subst (λ (b : Bool). Limits g.L.Caller.Caller c.args.stream
            (c.caller-reads.result, c.caller-writes.result) b callers)
            c.if-not-set_limits.false
            (limits.0, limits.1, limits.2, c.set_limits.ensures.unread, c.set_limits.ensures.unwritten),
        (end, refl, c.serve_limited-end.ensures.served),
        c.close-2.ensures.closed,
      ),
    )

pub returns-in-Err-clause-ends : goal.returns-in-Err-clause-ends
returns-in-Err-clause-ends g c =
    let limits = c.set_limits.ensures.limits in
    let callers : g.row.L-Caller.Denot × g.row.L-Caller.Denot = (c.set_limits.new.reads, c.set_limits.new.writes) in
    let end = c.serve_limited-end.result.end in (
      Some (served_in end),
      ap (λ (f : Fault). Err f) c.fault_of.ensures
          ∙ sym (ap (λ (x : Result Exchange ServeFault). connection_end (Some (served_in x))) c.in-Err.is),
      (
        c.caller-reads.result,
        c.caller-writes.result,
        c.caller-reads.new.self,
        c.caller-writes.new.self,
        c.caller-reads.ensures.caller_made,
        c.caller-writes.ensures.caller_made,
        true,
        callers,
        (c.serve_limited-end.result.reads, c.serve_limited-end.result.writes),
        subst (λ (b : Bool). Limits g.L.Caller.Caller c.args.stream
            (c.caller-reads.result, c.caller-writes.result) b callers)
            c.if-not-set_limits.false
            (limits.0, limits.1, limits.2, c.set_limits.ensures.unread, c.set_limits.ensures.unwritten),
        (end, refl, c.serve_limited-end.ensures.served),
        c.close-2.ensures.closed,
      ),
    )
