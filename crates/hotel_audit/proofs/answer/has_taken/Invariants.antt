-- the answers that are left decide
use Rattle.std.proofs.Common.{◌≡◌, drop}
use Rattle.hotel_audit.specs.Import.{has_taken}
use Rattle.hotel_audit.proofs.answer.has_taken.Given as goal

abbrev pub invariant-loop-answer : goal.invariant-loop-answer
invariant-loop-answer l = has_taken (drop l.answer-index l.answers) ≡ has_taken l.answers
