use Rattle.std.proofs.Common.{arith}
use Rattle.keycard_rules.proofs.NumeralLemmas.{numeral-fixed_text}
use Rattle.keycard_rules.proofs.code.Code.print.Goals as goal

pub returns-clause-reads_back : goal.returns-clause-reads_back
returns-clause-reads_back c =
    let back =
    numeral-fixed_text 16 12 c.self.inside.value (omega arith) (omega arith) (omega arith) c.self.invariant in
    rw (c.write_fixed.ensures, ← c.self.view_is) back
