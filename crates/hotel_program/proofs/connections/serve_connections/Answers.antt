use Rattle.std.proofs.Common.{[], ◌∷◌, ◌++◌, length-append, refl, arith}
use Rattle.keycard_rules.proofs.CallsTogether.{passes_push}
use Rattle.hotel_program.specs.Connections.{ConnectsAndTells, sockets}
use Rattle.hotel_program.proofs.ConnectionsLemmas.{all_happened}
use Rattle.hotel_program.proofs.connections.serve_connections.Goals as goal

pub loop-init : goal.loop-init
loop-init g c = record { ends = ([], refl, refl) }

pub loop-preserved : goal.loop-preserved
loop-preserved g c =
    let first = c.loop.invariant.ends in
    let next = c.serve_and_tell.ensures.ends in
    record {
      ends = (
        first.0 ++ next.0 ∷ [],
        simp length-append (omega (arith, first.1)),
        passes_push (ConnectsAndTells (sockets g.L.Listener g.L.Caller.Caller) g.B.Kept g.B.Books g.R.Rng.stream
            g.F.FaultSink.told) _ first.0 first.2 next.1,
      );
    }

pub returns-clause-ends : goal.returns-clause-ends
returns-clause-ends g c =
    let ends = c.loop.invariant.ends in
    record {
      ends = ends.0;
      last = _;
      all = omega (arith, ends.1);
      connects = ends.2;
      happened = all_happened (sockets g.L.Listener g.L.Caller.Caller) g.B.Kept g.B.Books g.R.Rng.stream
          g.F.FaultSink.told _ _ ends.0 ends.2;
    }
