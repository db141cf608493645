use Rattle.std.proofs.Common.{◌≡◌, ◌==◌, ◌+◌, arith, drop, get_or, true, refl}
use Rattle.std.proofs.lemmas.List.{length-drop, take_rest, get_or_read}
use Rattle.std.proofs.lemmas.Bool.Decides.{nat_tests}
use Rattle.keycard_rules.specs.Chain.{place_in}
use Rattle.keycard_rules.proofs.ChainLemmas.{place_in-le, is_one_of-no, is_one_of-yes, recoded-is}
use Rattle.keycard_rules.proofs.chain.Chain.recode.Goals as goal

pub overflow_add-place : goal.overflow_add-place
overflow_add-place c =
    let items = c.self.inside.codes.items in
    let xs = drop (c.self.inside.place + 1) items in
    let e : c.place_of-ahead.result ≡ place_in xs c.args.to = cc (take_rest items (c.self.inside.place + 1)) in
    let k = place_in-le xs c.args.to in
    omega (arith, length-drop (c.self.inside.place + 1) items, c.self.inside.codes.ok.0)

pub returns-then-place-len-clause-answer : goal.returns-then-place-len-clause-answer
returns-then-place-len-clause-answer c =
    let items = c.self.inside.codes.items in
    let p = c.self.inside.place in
    let xs = drop (p + 1) items in
    let e : c.place_of-ahead.result ≡ place_in xs c.args.to = cc (take_rest items (p + 1)) in
    let n = is_one_of-no xs c.args.to (omega (arith, length-drop (p + 1) items, c.self.inside.codes.ok.0)) in
    let r : c.index.result.now ≡ get_or items p 0 = get_or_read items p _ c.self.invariant.0 c.index.ensures 0 in
    let h : (get_or items p 0 == c.args.from) ≡ true = grind (arith, nat_tests) in
    rw (← c.self.view_is) (rw (n, h) refl)

pub returns-clause-answer : goal.returns-clause-answer
returns-clause-answer c =
    let items = c.self.inside.codes.items in
    let p = c.self.inside.place in
    let xs = drop (p + 1) items in
    let e : c.place_of-ahead.result ≡ place_in xs c.args.to = cc (take_rest items (p + 1)) in
    let n = is_one_of-yes xs c.args.to (omega (arith, length-drop (p + 1) items, c.self.inside.codes.ok.0)) in
    let r : c.index.result.now ≡ get_or items p 0 = get_or_read items p _ c.self.invariant.0 c.index.ensures 0 in
    let h : (get_or items p 0 == c.args.from) ≡ true = grind (arith, nat_tests) in
    rw (← c.self.view_is) (rw (n, h) refl)

pub returns-clause-ok : goal.returns-clause-ok
returns-clause-ok c =
    let items = c.self.inside.codes.items in
    let p = c.self.inside.place in
    let xs = drop (p + 1) items in
    let e : c.place_of-ahead.result ≡ place_in xs c.args.to = cc (take_rest items (p + 1)) in
    rw (← c.self.view_is) (recoded-is items p c.args.to c.place_of-ahead.result c.self.invariant.0 e
    (omega (arith, length-drop (p + 1) items, c.self.inside.codes.ok.0)))
