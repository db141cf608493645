-- an interrupted read takes nothing, and each was counted
use Rattle.std.proofs.Common.{◌≡◌, ◌+◌, ◌-◌, ◌≤◌, List, length}
use Rattle.std.specs.Io.KnownBytes.{Keeps}
use Rattle.std.specs.declared.io.Error.{Error}
use Rattle.keycard_rules.specs.Calls.{Passes}
use Rattle.hotel_streams.specs.{Asked.Interrupts, Calls.NoneForgotten, declared.calls.TheConstants.LAST_INTERRUPTION}
use Rattle.hotel_streams.proofs.calls.read_some.Given as goal

abbrev pub invariant-loop-n : goal.invariant-loop-n
invariant-loop-n g l = record {
  room : length l.room ≡ length l.initial.room;
  kept : Keeps (g.R.ReadOnce.remaining l.initial.reader) (g.R.ReadOnce.remaining l.reader);
  calls : NoneForgotten l.initial.calls l.calls;
  asked : (whys : List Error) × Passes (Interrupts g.R.ReadOnce.was_read) l.initial.reader whys l.reader
      × (l.calls.interrupted ≡ l.initial.calls.interrupted + length whys)
      × (length whys ≤ (LAST_INTERRUPTION - 1) - l.initial.calls.interrupted);
}

abbrev pub decreases-loop-n : goal.decreases-loop-n
decreases-loop-n g l = LAST_INTERRUPTION - l.calls.interrupted
