use Rattle.std.proofs.Common.{◌≡◌, ◌<◌, suc, arith, get_or, length}
use Rattle.std.proofs.lemmas.List.{get_or_read}
use Rattle.std.proofs.lemmas.Bool.Decides.{nat_tests}
use Rattle.keycard_rules.proofs.ChainLemmas.{shut}
use Rattle.keycard_rules.proofs.chain.Chain.enter.Goals as goal
use Rattle.keycard_rules.proofs.chain.Chain.enter.Goals.{then-ne-via-then-ne, then-ne-via-else-ne+then-next-len}
use Rattle.keycard_rules.proofs.chain.Chain.enter.Goals.{then-ne-via-else-ne+else-next-len+then-ne-2}

pub returns-then-ne-clause-lock_rule : goal.returns-then-ne-clause-lock_rule
returns-then-ne-clause-lock_rule c =
    let items = c.self.inside.codes.items in
    let p = c.self.inside.place in
    let r : c.index.result.now ≡ get_or items p 0 = get_or_read items p _ c.self.invariant.0 c.index.ensures 0 in
    let n : get_or items p 0 ≡ c.args.link.now.new_code → ⊥ = λ e. absurd (grind (arith, nat_tests)) in
    let m : get_or items p 0 ≡ c.args.link.now.old_code → suc p < length items
    → get_or items (suc p) 0 ≡ c.args.link.now.new_code → ⊥ =
    elim c.then-ne.branch [
      | then-ne-via-then-ne w ↦ λ e l k. absurd (grind (arith, nat_tests))
      | then-ne-via-else-ne+then-next-len w ↦ λ e l k. absurd (omega (arith, c.self.inside.codes.ok.0))
      | then-ne-via-else-ne+else-next-len+then-ne-2 w ↦ λ e l k. absurd (grind (arith, nat_tests, get_or_read))
    ] in
    rw (← c.self.view_is) (shut items p c.args.link.now c.self.invariant.0 c.self.invariant.1 n m)
