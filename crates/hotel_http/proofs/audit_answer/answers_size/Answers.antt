use Rattle.std.proofs.Common.{◌∙◌, arith}
use Rattle.hotel_http.proofs.AuditAnswerLemmas.{answers_longer}
use Rattle.hotel_http.proofs.audit_answer.answers_size.Goals as goal

pub loop-index-preserved : goal.loop-index-preserved
loop-index-preserved c =
    let more = answers_longer c.loop-index.index c.args.answers.now c.index-answers-index.result _
    c.loop-index-test.true c.index-answers-index.is (c.as_bytes.ensures.same ∙ c.answer_text.ensures) in
    let small = c.as_bytes.ensures.short in
    record {
      size = omega (arith, more, c.loop-index.invariant.size);
      few = omega (arith, small, c.loop-index.invariant.few);
    }
