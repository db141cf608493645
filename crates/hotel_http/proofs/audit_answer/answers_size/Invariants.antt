-- the size of the texts so far, each of at most 85 bytes
use Rattle.std.proofs.Common.{◌≡◌, ◌*◌, ◌≤◌, length, take}
use Rattle.hotel_audit.specs.Answers.{answers_text}
use Rattle.hotel_http.proofs.audit_answer.answers_size.Given as goal

abbrev pub invariant-loop-index : goal.invariant-loop-index
invariant-loop-index l = record {
  size : l.size ≡ length (answers_text 1 (take l.index l.answers));
  few : l.size ≤ 85 * l.index;
}
