use Rattle.std.proofs.Common.{◌≤◌, length, sym, ◌∙◌, arith}
use Rattle.std.specs.Ordering.{int_cmp}
use Rattle.std.proofs.lemmas.Bool.Decides.{nat_tests}
use Rattle.hotel_rows.proofs.OfDamage.Rising.{last_in_order}
use Rattle.hotel_tables.proofs.opening.numbers_rise.Goals as goal

pub returns : goal.returns
returns c =
    let past : length c.args.ids.now ≤ c.loop-i.i = grind (arith, nat_tests, c.loop-i-test.false) in
    sym (c.loop-i.invariant ∙ last_in_order int_cmp c.args.ids.now c.loop-i.i past)
