use Rattle.std.proofs.Common.{◌≡◌, ◌≤◌, ◌++◌, length, drop}
use Rattle.keycard_rules.specs.Numerals.{fixed_text}
use Rattle.keycard_rules.proofs.numerals.write_fixed.Given as goal

abbrev pub invariant-loop-place : goal.invariant-loop-place
invariant-loop-place l = record {
  within : l.place ≤ length l.into;
  text : fixed_text l.base (length l.into) l.number ≡ fixed_text l.base l.place l.rest ++ drop l.place l.into;
}

abbrev pub decreases-loop-place : goal.decreases-loop-place
decreases-loop-place l = l.place
