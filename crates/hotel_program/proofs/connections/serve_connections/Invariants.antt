-- the connections so far were served, each in the state that the one before it left, and the fault of each was reported
-- before the next
use Rattle.std.proofs.Common.{◌≡◌, List, length}
use Rattle.keycard_rules.specs.Calls.{Passes}
use Rattle.hotel_program.specs.Connections.{ConnectionEnd, ConnectsAndTells, sockets}
use Rattle.hotel_program.proofs.connections.serve_connections.Given as goal

abbrev pub invariant-loop : goal.invariant-loop
invariant-loop g l = record {
  ends : (ends : List ConnectionEnd) × (length ends ≡ l.counter)
      × Passes (ConnectsAndTells (sockets g.L.Listener g.L.Caller.Caller) g.B.Kept g.B.Books g.R.Rng.stream
      g.F.FaultSink.told) ((l.initial.listener, (l.initial.books, l.initial.source)), l.initial.faults) ends
      ((l.listener, (l.books, l.source)), l.faults);
}
