-- what was read so far, and how many bytes are thrown away yet
use Rattle.std.proofs.Common.{◌≡◌, ◌-◌, List}
use Rattle.std.specs.Duration.{as_nanos}
use Rattle.hotel_program.specs.Timed.{Reading, ReadsOn, ReadsRest, all_brought}
use Rattle.hotel_program.specs.declared.timed.TheConstants.{REST_BYTES}
use Rattle.hotel_program.proofs.timed.TimedReader.linger.Given as goal

abbrev pub invariant-loop-rest : goal.invariant-loop-rest
invariant-loop-rest g l = record {
  read : (readings : List Reading) × ReadsOn (ReadsRest (g.L.Caller.reads_limited l.stream) g.L.Caller.clock_read
      (g.L.Caller.was_read l.stream)) readings (l.initial.caller, as_nanos l.initial.left) (l.caller, as_nanos l.left)
      × (l.rest ≡ REST_BYTES - all_brought readings);
}

abbrev pub decreases-loop-rest : goal.decreases-loop-rest
decreases-loop-rest g l = l.rest
