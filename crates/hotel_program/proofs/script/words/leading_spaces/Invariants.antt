use Rattle.std.proofs.Common.{◌≡◌, ◌+◌, ◌==◌, drop}
use Rattle.std.specs.List.{prefix_len}
use Rattle.hotel_program.proofs.script.words.leading_spaces.Given as goal

abbrev pub invariant-loop-i : goal.invariant-loop-i
invariant-loop-i l = prefix_len (λ b. b == 32) l.text ≡ l.i + prefix_len (λ b. b == 32) (drop l.i l.text)
