use Rattle.std.proofs.Common.{◌≡◌, ◌+◌, ◌==◌, drop}
use Rattle.std.specs.List.{position_or_len}
use Rattle.hotel_program.proofs.script.words.word_end.Given as goal

abbrev pub invariant-loop-i : goal.invariant-loop-i
invariant-loop-i l = position_or_len (λ b. b == 32) l.text ≡ l.i + position_or_len (λ b. b == 32) (drop l.i l.text)
