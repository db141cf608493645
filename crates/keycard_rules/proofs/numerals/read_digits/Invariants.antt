use Rattle.std.proofs.Common.{◌≡◌, ◌<◌, take}
use Rattle.std.specs.List.{All}
use Rattle.keycard_rules.specs.Numerals.{digit_value, number_of}
use Rattle.keycard_rules.proofs.numerals.read_digits.Given as goal

abbrev pub invariant-loop-byte : goal.invariant-loop-byte
invariant-loop-byte l = record {
  value : l.number ≡ number_of l.base (take l.byte-index l.text);
  digits : All (λ b. digit_value b < l.base) (take l.byte-index l.text);
}
