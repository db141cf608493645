use Rattle.std.proofs.Common.{◌≡◌, ◌-◌, ◌<◌, arith, length, get_or}
use Rattle.hotel_program.proofs.OfScript.ReturnLemmas.{cr-at-end, no-cr}
use Rattle.hotel_program.proofs.script.lines.without_return.Goals as goal
use Rattle.hotel_program.proofs.script.lines.without_return.Goals.{else-len-gt0-via-then-len-gt0+else-line-len-eq13}
use Rattle.hotel_program.proofs.script.lines.without_return.Goals.{else-len-gt0-via-else-len-gt0}

pub returns-then-line-len-eq13 : goal.returns-then-line-len-eq13
returns-then-line-len-eq13 c = cr-at-end c.args.line.now c.if-len-gt0.true c.if-line-len-eq13.true

pub returns : goal.returns
returns c =
    let line = c.args.line.now in
    let none : 0 < length line → get_or line (length line - 1) 0 ≡ 13 → ⊥ =
    elim c.else-len-gt0.branch [
      | else-len-gt0-via-then-len-gt0+else-line-len-eq13 w ↦ λ h e. w.if-line-len-eq13.false e
      | else-len-gt0-via-else-len-gt0 w ↦ λ h e. absurd (omega arith)
    ] in
    no-cr line none
