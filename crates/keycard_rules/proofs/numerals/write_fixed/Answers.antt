use Rattle.std.proofs.Common.{◌≡◌, length, arith, sym, ◌-◌}
use Rattle.std.proofs.lemmas.List.{length-set}
use Rattle.keycard_rules.specs.Numerals.{fixed_text}
use Rattle.keycard_rules.proofs.NumeralLemmas.{fixed_text-write}
use Rattle.keycard_rules.proofs.numerals.write_fixed.Goals as goal

pub loop-place-preserved : goal.loop-place-preserved
loop-place-preserved c = record {
  within = omega (arith, length-set c.loop-place.into (c.loop-place.place - 1) c.byte_of_digit.result);
  text = rw c.byte_of_digit.ensures (fixed_text-write c.args.base c.loop-place.place c.loop-place.rest c.args.number
      c.loop-place.into c.loop-place-test.true (omega arith) c.loop-place.invariant.text);
}

pub returns : goal.returns
unfolding fixed_text
returns c =
    let z : c.loop-place.place ≡ 0 = omega arith in
    let t = rw z at c.loop-place.invariant.text in
    let len : length c.loop-place.into ≡ length c.args.into.now = c.loop-place.auto.into in
    rw (← len) (sym t)
