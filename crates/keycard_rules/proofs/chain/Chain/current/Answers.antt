use Rattle.std.proofs.Common.{◌≡◌, ◌-◌, arith, sym, ◌∙◌, length, refl}
use Rattle.std.proofs.lemmas.List.{get_or_read_under}
use Rattle.keycard_rules.proofs.ChainLemmas.{last-at}
use Rattle.keycard_rules.proofs.chain.Chain.current.Goals as goal

pub returns : goal.returns
returns c =
    let items = c.self.inside.codes.items in
    let n : c.len.result ≡ length items = omega (arith, c.self.inside.codes.ok.0) in
    rw (← c.self.view_is) (rw n at (get_or_read_under items (c.len.result - 1) (length items) c.index.result.now 0
    c.index.ensures (omega arith) refl) ∙ sym (last-at items c.self.inside.place c.self.invariant.0))
