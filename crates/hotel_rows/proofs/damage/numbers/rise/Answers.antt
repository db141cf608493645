use Rattle.std.proofs.Common.{◌≡◌, ◌-◌, ◌<◌, ◌≤◌, ◌&&◌, length, drop, get_or, true, nat_cmp, ap, subst, ◌∙◌, arith}
use Rattle.std.specs.Ordering.{is_lt}
use Rattle.std.proofs.lemmas.Bool.Decides.{nat_tests}
use Rattle.hotel_model.specs.SoundRooms.{are_in_order}
use Rattle.hotel_rows.proofs.OfDamage.Rising.{next_in_order, last_in_order}
use Rattle.hotel_rows.proofs.damage.numbers.rise.Goals as goal

pub loop-i-preserved : goal.loop-i-preserved
loop-i-preserved c =
    let keys = c.args.keys.now in
    let i = c.loop-i.i in
    let low : 0 < i = omega (arith, c.loop-i.auto.i) in
    let less : is_lt (nat_cmp (get_or keys (i - 1) 0) (get_or keys i 0)) ≡ true =
    grind (arith, nat_tests, c.if-keys-i.false) in
    subst (λ n. are_in_order nat_cmp keys ≡ are_in_order nat_cmp (drop n keys)) (omega arith)
    (c.loop-i.invariant ∙ next_in_order nat_cmp 0 keys i low c.loop-i-test.true
    ∙ ap (λ b. b && are_in_order nat_cmp (drop i keys)) less)

pub returns : goal.returns
returns c =
    let past : length c.args.keys.now ≤ c.loop-i.i = grind (arith, nat_tests, c.loop-i-test.false) in
    let all = c.loop-i.invariant ∙ last_in_order nat_cmp c.args.keys.now c.loop-i.i past in
    cc
