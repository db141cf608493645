use Rattle.std.proofs.Common.{◌≡◌, ◌+◌, ◌==◌, drop}
use Rattle.std.specs.List.{position_or_len}
use Rattle.keycard_rules.proofs.chain.place_of.Given as goal

abbrev pub invariant-loop-i : goal.invariant-loop-i
invariant-loop-i l =
    position_or_len (λ c. c == l.code) l.codes ≡ l.i + position_or_len (λ c. c == l.code) (drop l.i l.codes)
