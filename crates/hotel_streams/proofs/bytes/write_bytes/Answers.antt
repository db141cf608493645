use Rattle.hotel_streams.proofs.{BytesLemmas.appended_next, CallsLemmas.then_none_forgotten}
use Rattle.hotel_streams.proofs.bytes.write_bytes.Goals as goal

pub loop-done-preserved : goal.loop-done-preserved
loop-done-preserved g c =
    let next = appended_next _ _ _ _ _ _ c.loop-done.invariant.0 c.loop-done.invariant.1
    c.in_ok-taken.ensures.bound c.in_ok-taken.ensures.ok in
    (next.0, next.1, then_none_forgotten _ _ _ c.loop-done.invariant.2 c.write_some.ensures.calls.none_forgotten)
