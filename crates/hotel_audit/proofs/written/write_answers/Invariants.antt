-- the answers so far were written
use Rattle.std.proofs.Common.{take}
use Rattle.std.specs.Io.KnownBytes.{Appends}
use Rattle.hotel_streams.specs.Calls.{NoneForgotten}
use Rattle.hotel_audit.specs.Answers.{answers_text}
use Rattle.hotel_audit.proofs.written.write_answers.Given as goal

abbrev pub invariant-loop-index : goal.invariant-loop-index
invariant-loop-index g l = Appends (g.W.Write.contents l.initial.writer) (g.W.Write.contents l.writer)
    (answers_text 1 (take l.index l.answers)) × NoneForgotten l.initial.calls l.calls
