use Rattle.std.proofs.Common.{take, subst}
use Rattle.hotel_streams.proofs.ReadLemmas.{then_lost, then_read}
use Rattle.hotel_http.specs.Head.{LiesWithin, WantsHead}
use Rattle.hotel_http.proofs.HeadLemmas.{judged_of_input}
use Rattle.hotel_http.specs.declared.head.TheConstants.{HEAD_BYTES}
use Rattle.hotel_http.proofs.head.read_head.Goals as goal

pub returns-in_default-clause-judged : goal.returns-in_default-clause-judged
returns-in_default-clause-judged g c =
    judged_of_input HEAD_BYTES _ _ _ _ _ _ _ _ _ c.deref.ensures.value c.pieces.invariant.taken c.in_ok-got.ensures.ok
    c.in_ok-got.ensures.end c.judge.ensures.judged

pub returns-in_default-clause-within : goal.returns-in_default-clause-within
returns-in_default-clause-within g c =
    subst (λ l. LiesWithin (take HEAD_BYTES l) c.judge.new.headers c.judge.result)
    c.deref.ensures.value c.judge.ensures.within

pub returns-in_default-clause-wanted : goal.returns-in_default-clause-wanted
returns-in_default-clause-wanted g c =
    then_read WantsHead _ _ _ _ _ _ _ c.pieces.invariant.taken c.pieces.invariant.wants
    c.in_ok-got.ensures.ok c.in_ok-got.ensures.most

pub returns-in_err-got-clause-wanted : goal.returns-in_err-got-clause-wanted
returns-in_err-got-clause-wanted g c =
    then_lost WantsHead _ _ _ _ c.pieces.invariant.taken c.pieces.invariant.wants c.in_err-got.ensures.lost
