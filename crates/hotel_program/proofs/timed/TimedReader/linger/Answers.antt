-- One reading more; or the last one, behind those that brought fewer bytes than are thrown away.
use Rattle.std.proofs.Common.{◌∷◌, ◌++◌, [], ℕ, Ok, arith, sym}
use Rattle.std.specs.Duration.{as_nanos}
use Rattle.hotel_program.specs.Timed.{Reading, ReadsRest}
use Rattle.hotel_program.proofs.TimedLemmas.{brought_more, lingered, not_lingered, read_on}
use Rattle.hotel_program.proofs.timed.TimedReader.linger.Goals as goal

pub returns-then-is_err : goal.returns-then-is_err
returns-then-is_err g c =
    let stream = c.args.self.stream.now in
    let reads = ReadsRest (g.L.Caller.reads_limited stream) g.L.Caller.clock_read (g.L.Caller.was_read stream) in
    record {
      lingers = (
        _,
        _,
        _,
        c.shut_writes.ensures.shut,
        not_lingered reads c.shut_writes.result _ (sym c.if-is_err.ensures.value),
      );
    }

pub loop-rest-preserved : goal.loop-rest-preserved
loop-rest-preserved g c =
    let stream = c.args.self.stream.now in
    let reads = ReadsRest (g.L.Caller.reads_limited stream) g.L.Caller.clock_read (g.L.Caller.was_read stream) in
    let so_far = c.loop-rest.invariant.read in
    let reading : Reading = (Ok c.in-Ok.count, c.read_rest.new.room) in
    let more = brought_more so_far.0 reading in
    record {
      read = (
        so_far.0 ++ reading ∷ [],
        read_on reads so_far.0 reading _ _ _ so_far.1 (omega (arith, so_far.2, c.loop-rest-test.true))
            c.in-Ok.ensures.timed,
        omega (arith, more, so_far.2, c.saturating_sub-rest.ensures),
      );
    }

pub returns-in_default : goal.returns-in_default
returns-in_default g c =
    let stream = c.args.self.stream.now in
    let reads = ReadsRest (g.L.Caller.reads_limited stream) g.L.Caller.clock_read (g.L.Caller.was_read stream) in
    let so_far = c.loop-rest.invariant.read in
    let reading : Reading = (Ok c.in-Ok.count, c.read_rest.new.room) in
    let new : g.row.L.Denot × ℕ = (c.read_rest.new.caller, as_nanos c.read_rest.new.left) in
    record {
      lingers = (
        _,
        _,
        _,
        c.shut_writes.ensures.shut,
        lingered reads c.shut_writes.result (so_far.0 ++ reading ∷ []) _ new (sym c.if-is_err.ensures.value)
            (read_on reads so_far.0 reading _ _ _ so_far.1 (omega (arith, so_far.2, c.loop-rest-test.true))
            c.in-Ok.ensures.timed),
      );
    }

pub returns-in_default-2 : goal.returns-in_default-2
returns-in_default-2 g c =
    let stream = c.args.self.stream.now in
    let reads = ReadsRest (g.L.Caller.reads_limited stream) g.L.Caller.clock_read (g.L.Caller.was_read stream) in
    let so_far = c.loop-rest.invariant.read in
    let reading : Reading = (c.read_rest.result, c.read_rest.new.room) in
    let new : g.row.L.Denot × ℕ = (c.read_rest.new.caller, as_nanos c.read_rest.new.left) in
    record {
      lingers = (
        _,
        _,
        _,
        c.shut_writes.ensures.shut,
        lingered reads c.shut_writes.result (so_far.0 ++ reading ∷ []) _ new (sym c.if-is_err.ensures.value)
            (read_on reads so_far.0 reading _ _ _ so_far.1 (omega (arith, so_far.2, c.loop-rest-test.true))
            c.read_rest.ensures.timed),
      );
    }
