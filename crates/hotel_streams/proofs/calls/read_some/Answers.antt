-- It was interrupted once more.
use Rattle.std.proofs.Common.{◌∙◌}
use Rattle.std.proofs.KnownBytes.{Keeps-trans}
use Rattle.hotel_streams.proofs.CallsLemmas.{asked_again, then_none_forgotten}
use Rattle.hotel_streams.proofs.calls.read_some.Goals as goal

pub loop-n-preserved : goal.loop-n-preserved
loop-n-preserved g c =
    let i = c.loop-n.invariant in
    let counted = c.is_last.ensures.counted c.if-is_last.false in
    record {
      room = c.read_once.auto.room ∙ i.room;
      kept = Keeps-trans (g.R.ReadOnce.remaining c.args.reader.now) _ _ i.kept c.in-Err.ensures.bytes;
      calls = then_none_forgotten _ _ _ i.calls c.is_last.ensures.calls;
      asked = asked_again g.R.ReadOnce.was_read _ _ _ i.asked.0 c.in-Err.why _ _ _ i.asked.1 c.in-Err.ensures.read
          (c.is_interrupted.ensures.0 c.if-not-is_interrupted.false) i.asked.2 counted.0
          counted.1;
    }
