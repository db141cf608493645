use Rattle.std.proofs.Common.{refl, arith, inl, inr, ◌<◌, length}
use Rattle.std.proofs.lemmas.Bool.Decides.{nat_tests}
use Rattle.hotel_http.proofs.HeadLemmas.{too_long, cut}
use Rattle.hotel_http.specs.declared.head.TheConstants.{HEAD_BYTES}
use Rattle.hotel_http.proofs.head.judge_part.Goals as goal

pub returns-then-bytes-gt-HEAD_BYTES-clause-judged : goal.returns-then-bytes-gt-HEAD_BYTES-clause-judged
returns-then-bytes-gt-HEAD_BYTES-clause-judged c more headers end none =
    inl (too_long HEAD_BYTES c.args.bytes.now more refl c.if-bytes-gt-HEAD_BYTES.true none)

pub returns-else-is_empty-clause-judged : goal.returns-else-is_empty-clause-judged
returns-else-is_empty-clause-judged c more headers end none =
    let some : 0 < length c.args.bytes.now = grind (arith, nat_tests) in
    inr (cut HEAD_BYTES c.args.bytes.now more refl c.if-bytes-gt-HEAD_BYTES.false some (end c.if-not-at_end.false) none)
