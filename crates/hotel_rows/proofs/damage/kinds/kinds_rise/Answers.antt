use Rattle.std.proofs.Common.{◌≤◌, length, sym, ◌∙◌, arith}
use Rattle.std.proofs.lemmas.Bool.Decides.{nat_tests}
use Rattle.hotel_rows.specs.Stored.{kind_text}
use Rattle.hotel_rows.proofs.OfDamage.KindTexts.{last_text}
use Rattle.hotel_rows.proofs.damage.kinds.kinds_rise.Goals as goal

pub returns : goal.returns
returns c =
    let past : length c.args.kinds.now ≤ c.loop-i.i = grind (arith, nat_tests, c.loop-i-test.false) in
    sym (c.loop-i.invariant ∙ last_text kind_text c.args.kinds.now c.loop-i.i past)
