-- an interrupted write adds nothing, and each was counted
use Rattle.std.proofs.Common.{◌≡◌, ◌+◌, ◌-◌, ◌≤◌, List, length}
use Rattle.std.specs.Io.KnownBytes.{Keeps}
use Rattle.std.specs.declared.io.Error.{Error}
use Rattle.keycard_rules.specs.Calls.{Passes}
use Rattle.hotel_streams.specs.{Asked.Interrupts, Calls.NoneForgotten, declared.calls.TheConstants.LAST_INTERRUPTION}
use Rattle.hotel_streams.proofs.calls.write_some.Given as goal

abbrev pub invariant-loop-calls : goal.invariant-loop-calls
invariant-loop-calls g l = record {
  kept : Keeps (g.W.WriteOnce.contents l.initial.writer) (g.W.WriteOnce.contents l.writer);
  calls : NoneForgotten l.initial.calls l.calls;
  asked : (whys : List Error)
      × Passes (Interrupts (λ old got new. g.W.WriteOnce.was_written old l.bytes got new)) l.initial.writer whys
      l.writer
      × (l.calls.interrupted ≡ l.initial.calls.interrupted + length whys)
      × (length whys ≤ (LAST_INTERRUPTION - 1) - l.initial.calls.interrupted);
}

abbrev pub decreases-loop-calls : goal.decreases-loop-calls
decreases-loop-calls g l = LAST_INTERRUPTION - l.calls.interrupted
