use Rattle.std.proofs.Common.{arith}
use Rattle.keycard_rules.proofs.NumeralLemmas.{number_of-below, numeral-some}
use Rattle.keycard_rules.proofs.code.Code.read.Goals as goal

pub invariant_of-result : goal.invariant_of-result
invariant_of-result c =
    let r = numeral-some 16 12 c.args.text.now c.in_ok-value.value c.in_ok-value.ensures in
    let below = number_of-below 16 12 c.args.text.now (omega arith) r.0 in
    rw r.1 below
