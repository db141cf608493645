use Rattle.std.proofs.Common.{rules}
use Rattle.keycard_rules.proofs.ChainLemmas.{distinct-one}
use Rattle.keycard_rules.proofs.chain.Chain.install.Goals as goal

pub invariant_of-result : goal.invariant_of-result
invariant_of-result c = distinct-one c.args.code c.push.new.self.items (search rules)
