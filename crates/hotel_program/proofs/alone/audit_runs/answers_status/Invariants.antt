-- the answers that are left have the status of all
use Rattle.std.proofs.Common.{◌≡◌, drop}
use Rattle.hotel_program.specs.Alone.AuditRuns.{answers_status}
use Rattle.hotel_program.proofs.alone.audit_runs.answers_status.Given as goal

abbrev pub invariant-loop-answer : goal.invariant-loop-answer
invariant-loop-answer l = answers_status (drop l.answer-index l.answers) ≡ answers_status l.answers
