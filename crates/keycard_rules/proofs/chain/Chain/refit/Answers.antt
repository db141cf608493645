use Rattle.std.proofs.Common.{◌≡◌, arith, rules, ◌++◌, ◌∷◌, [], length, length-append}
use Rattle.keycard_rules.proofs.ChainLemmas.{distinct-push}
use Rattle.keycard_rules.proofs.chain.Chain.refit.Goals as goal

pub invariant_of-self-2 : goal.invariant_of-self-2
invariant_of-self-2 c =
    let items = c.self.inside.codes.items in
    let more : c.push.new.self.items ≡ items ++ (c.args.code ∷ []) = search rules in
    let n : c.len-last.result ≡ length items = omega (arith, c.self.inside.codes.ok.0) in
    let distinct =
    distinct-push items c.push.new.self.items c.self.inside.place c.args.code c.self.invariant.0 c.self.invariant.1
    (rw (← c.self.view_is) at c.requires.fresh) more in
    (rw (n, more) (omega (arith, length-append items (c.args.code ∷ []))), distinct.1)
