use Rattle.std.proofs.Common.{◌≡◌, arith, rules, ◌++◌, ◌∷◌, [], length-append}
use Rattle.keycard_rules.proofs.ChainLemmas.{distinct-push, is_link-pushed}
use Rattle.keycard_rules.proofs.chain.Chain.issue.Goals as goal

pub invariant_of-self-2 : goal.invariant_of-self-2
invariant_of-self-2 c =
    distinct-push c.self.inside.codes.items c.push.new.self.items c.self.inside.place c.args.code
    c.self.invariant.0 c.self.invariant.1
    (rw (← c.self.view_is) at c.requires.fresh) (search rules)

pub returns-clause-is_link : goal.returns-clause-is_link
returns-clause-is_link c =
    let items = c.self.inside.codes.items in
    let more : c.push.new.self.items ≡ items ++ (c.args.code ∷ []) = search rules in
    is_link-pushed items c.push.new.self.items c.self.inside.place c.current-old_code.result
    c.args.code c.self.invariant.0 more
    (rw more (omega (arith, length-append items (c.args.code ∷ []), c.self.invariant.0)))
    (rw (← c.self.view_is) at c.current-old_code.ensures)
