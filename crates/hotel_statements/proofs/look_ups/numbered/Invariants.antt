use Rattle.std.proofs.Common.{◌≡◌, drop}
use Rattle.hotel_statements.specs.LookUps.{numbered_fit}
use Rattle.hotel_statements.proofs.look_ups.numbered.Given as goal

abbrev pub invariant-loop-i : goal.invariant-loop-i
invariant-loop-i l = numbered_fit l.fits l.number ≡ numbered_fit (drop l.i l.fits) l.number
