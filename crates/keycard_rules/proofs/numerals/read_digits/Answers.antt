use Rattle.std.proofs.Common.{◌<◌, arith, refl}
use Rattle.std.proofs.lemmas.List.Elements.{All-nil, All-more}
use Rattle.keycard_rules.specs.Numerals.{digit_value, number_of}
use Rattle.keycard_rules.proofs.NumeralLemmas.{number_of-more, number_of-fits}
use Rattle.keycard_rules.proofs.numerals.read_digits.Goals as goal

pub loop-byte-init : goal.loop-byte-init
unfolding number_of
loop-byte-init c = record { value = refl; digits = All-nil (λ b. digit_value b < c.args.base) }

pub overflow_mul-number : goal.overflow_mul-number
overflow_mul-number c =
    let fits = number_of-fits c.args.base c.args.most c.loop-byte.byte-index c.args.text.now 0 c.requires.least
    c.requires.fits (omega arith) (omega arith) c.loop-byte.invariant.digits (omega arith) in
    rw c.loop-byte.invariant.value (omega arith)

pub overflow_add-number : goal.overflow_add-number
overflow_add-number c =
    let fits = number_of-fits c.args.base c.args.most c.loop-byte.byte-index c.args.text.now c.from-digit.result
    c.requires.least c.requires.fits (omega arith) (omega arith) c.loop-byte.invariant.digits (omega arith) in
    rw c.loop-byte.invariant.value (omega arith)

pub loop-byte-preserved : goal.loop-byte-preserved
loop-byte-preserved c =
    let more = number_of-more c.args.base c.args.text.now c.loop-byte.byte-index (omega arith) in
    record {
      value = rw (more, ← c.loop-byte.invariant.value, c.from-digit.ensures, c.value_of_digit.ensures) refl;
      digits = All-more (λ b. digit_value b < c.args.base) c.args.text.now c.loop-byte.byte-index 0
          (omega arith) c.loop-byte.invariant.digits (omega arith);
    }
