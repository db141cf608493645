use Rattle.std.proofs.Common.{refl, arith, inl, inr, subst, take_all}
use Rattle.httparse.specs.Grammar.{HasNoRequest, MayBecomeRequest}
use Rattle.hotel_http.proofs.HeadLemmas.{malformed, too_many_fields, whole}
use Rattle.hotel_http.specs.declared.head.TheConstants.{HEAD_BYTES}
use Rattle.hotel_http.proofs.head.judge.Goals as goal

pub returns-in-Whole-clause-judged : goal.returns-in-Whole-clause-judged
returns-in-Whole-clause-judged c more end =
    let (within, is) = rw c.head_part.ensures at c.in-Whole.ensures in
    whole HEAD_BYTES c.args.bytes.now more _ _ refl (omega arith) within is

pub returns-in-Part-clause-judged : goal.returns-in-Part-clause-judged
returns-in-Part-clause-judged c more end =
    let (none, may) = rw c.head_part.ensures at c.in-Part.ensures in
    c.judge_part.ensures.judged more _ end none

pub returns-in-Part-clause-open : goal.returns-in-Part-clause-open
returns-in-Part-clause-open c is_open =
    let (none, may) = rw c.head_part.ensures at c.in-Part.ensures in
    let (short, more) = c.judge_part.ensures.open is_open in
    let all = take_all HEAD_BYTES c.args.bytes.now short in
    (record { short = short; none = subst HasNoRequest all none; may = subst MayBecomeRequest all may }, more)

pub returns-in-Part-clause-within : goal.returns-in-Part-clause-within
returns-in-Part-clause-within c = c.judge_part.ensures.within _

pub returns-in-TooMany-clause-judged : goal.returns-in-TooMany-clause-judged
returns-in-TooMany-clause-judged c more end =
    let (over, exceeds) = rw c.head_part.ensures at c.in-TooMany.ensures in
    inr (too_many_fields HEAD_BYTES c.args.bytes.now more over exceeds)

pub returns-in-Bad-clause-judged : goal.returns-in-Bad-clause-judged
returns-in-Bad-clause-judged c more end =
    inl (malformed HEAD_BYTES c.args.bytes.now more (rw c.head_part.ensures at c.in-Bad.ensures))
