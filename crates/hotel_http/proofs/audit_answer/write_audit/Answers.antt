use Rattle.std.proofs.Common.{rules, ◌∙◌, ap, None}
use Rattle.hotel_streams.proofs.BytesLemmas.{on_err}
use Rattle.hotel_audit.specs.Answers.{answers_text}
use Rattle.hotel_http.specs.{Answer.answer_text, Answer.head_text, declared.answer.Media.TheVariants.Plain}
use Rattle.hotel_http.specs.{declared.status.Status.TheVariants.Success}
use Rattle.hotel_http.proofs.AuditAnswerLemmas.{prefix_of_head, then_ok, then_err}
use Rattle.hotel_http.proofs.audit_answer.write_audit.Goals as goal

pub returns-in_err-write_bytes : goal.returns-in_err-write_bytes
unfolding answer_text
returns-in_err-write_bytes g c =
    let head = c.as_bytes.ensures.same ∙ c.head_text-head.ensures.same
    ∙ ap (head_text Success Plain None) c.answers_size.ensures in
    let err = on_err c.from_residual.result
    (prefix_of_head _ _ _ (answers_text 1 c.args.answers.now) head c.in_err-write_bytes.ensures.writes.err) in
    search rules

pub returns : goal.returns
unfolding answer_text
returns g c =
    let head = c.as_bytes.ensures.same ∙ c.head_text-head.ensures.same
    ∙ ap (head_text Success Plain None) c.answers_size.ensures in
    let ok = then_ok c.write_answers.result _ _ _ _ _ _ head c.in_ok-write_bytes.ensures.writes.ok
    c.write_answers.ensures.writes.ok in
    let err = then_err c.write_answers.result _ _ _ _ _ _ head c.in_ok-write_bytes.ensures.writes.ok
    c.write_answers.ensures.writes.err in
    search rules
