-- the parts so far were added
use Rattle.std.proofs.Common.{take}
use Rattle.std.specs.Io.KnownBytes.{Appends}
use Rattle.hotel_streams.specs.{Bytes.joined, Calls.NoneForgotten}
use Rattle.hotel_streams.proofs.bytes.write_parts.Given as goal

abbrev pub invariant-loop-part : goal.invariant-loop-part
invariant-loop-part g l =
    Appends (g.W.Write.contents l.initial.writer) (g.W.Write.contents l.writer) (joined (take l.part-index l.parts))
    × NoneForgotten l.initial.calls l.calls
