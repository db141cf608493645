-- It was interrupted once more.
use Rattle.std.proofs.KnownBytes.{Keeps-trans}
use Rattle.hotel_streams.proofs.CallsLemmas.{asked_again, then_none_forgotten}
use Rattle.hotel_streams.proofs.calls.write_some.Goals as goal

pub loop-calls-preserved : goal.loop-calls-preserved
loop-calls-preserved g c =
    let i = c.loop-calls.invariant in
    let counted = c.is_last.ensures.counted c.if-is_last.false in
    record {
      kept = Keeps-trans (g.W.WriteOnce.contents c.args.writer.now) _ _ i.kept c.in-Err.ensures.bytes;
      calls = then_none_forgotten _ _ _ i.calls c.is_last.ensures.calls;
      asked = asked_again (λ old got new. g.W.WriteOnce.was_written old c.args.bytes.now got new) _ _ _ i.asked.0
          c.in-Err.why _ _ _ i.asked.1 c.in-Err.ensures.written
          (c.is_interrupted.ensures.0 c.if-not-is_interrupted.false) i.asked.2 counted.0
          counted.1;
    }
