use Rattle.std.proofs.Common.{rules, ◌∙◌}
use Rattle.hotel_streams.proofs.{BytesLemmas.on_err, CallsLemmas.then_none_forgotten}
use Rattle.hotel_audit.proofs.AnswersWritten.{answers_written, answers_prefix}
use Rattle.hotel_audit.proofs.written.write_answers.Goals as goal

pub returns-in_err-write_bytes : goal.returns-in_err-write_bytes
returns-in_err-write_bytes g c =
    let err = on_err c.from_residual.result
    (answers_prefix _ _ _ c.loop-index.index c.args.answers.now c.index-answers-index.result _ c.loop-index-test.true
    c.index-answers-index.is (c.as_bytes.ensures.same ∙ c.answer_text-text.ensures)
    c.loop-index.invariant.0 c.in_err-write_bytes.ensures.writes.err) in
    search rules

pub loop-index-preserved : goal.loop-index-preserved
loop-index-preserved g c = (
  answers_written _ _ _ c.loop-index.index c.args.answers.now c.index-answers-index.result _ c.loop-index-test.true
      c.index-answers-index.is (c.as_bytes.ensures.same ∙ c.answer_text-text.ensures)
      c.loop-index.invariant.0 c.in_ok-write_bytes.ensures.writes.ok,
  then_none_forgotten _ _ _ c.loop-index.invariant.1 c.write_bytes.ensures.writes.calls.none_forgotten,
)
