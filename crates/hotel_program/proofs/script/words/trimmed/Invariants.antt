use Rattle.std.proofs.Common.{◌≡◌, ◌+◌, ◌-◌, ◌≤◌, ◌==◌, take, length}
use Rattle.std.specs.List.{suffix_len}
use Rattle.hotel_program.proofs.script.words.trimmed.Given as goal

abbrev pub invariant-loop-end : goal.invariant-loop-end
invariant-loop-end l = record {
  within : l.end ≤ length l.text;
  same : suffix_len (λ b. b == 32) l.text ≡ length l.text - l.end + suffix_len (λ b. b == 32) (take l.end l.text);
}

abbrev pub decreases-loop-end : goal.decreases-loop-end
decreases-loop-end l = l.end
