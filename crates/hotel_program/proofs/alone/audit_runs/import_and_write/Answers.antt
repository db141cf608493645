use Rattle.std.proofs.Common.{rules, ◌≡◌, true, false, refl, sym, ap, ◌∙◌, subst, List, Ok, Err}
use Rattle.std.specs.Io.KnownBytes.{Appends}
use Rattle.hotel_streams.specs.Bytes.{AppendsPrefix}
use Rattle.hotel_audit.specs.Answers.{answers_text}
use Rattle.hotel_audit.specs.declared.answer.LineAnswer.{LineAnswer}
use Rattle.hotel_program.specs.Alone.AuditRuns.{answers_status}
use Rattle.hotel_program.specs.declared.faults.Fault.TheVariants.{Write}
use Rattle.hotel_program.proofs.AuditRunLemmas.{no_failed_write}
use Rattle.hotel_program.proofs.alone.audit_runs.import_and_write.Goals as goal

pub returns-in-Err-clause-ends : goal.returns-in-Err-clause-ends
returns-in-Err-clause-ends g c =
    let e = c.in-Err.ensures in (
      Err c.in-Err.fault,
      false,
      ap (λ f. Err f) c.import_fault.ensures,
      refl,
      e.imported,
    )

pub returns-in-Ok-write_answers-clause-ends : goal.returns-in-Ok-write_answers-clause-ends
returns-in-Ok-write_answers-clause-ends g c =
    let e = c.in-Ok.ensures in
    let items = c.as_slice-answers.ensures.value in
    let old = g.W.Write.contents c.args.writer.now in
    let new = g.W.Write.contents c.write_answers.new.writer in (
      Ok c.in-Ok.answers.items,
      false,
      ap (λ s. Ok s) (c.answers_status.ensures ∙ ap answers_status items),
      subst (λ (l : List LineAnswer). Appends old new (answers_text 1 l)) items c.in-Ok-write_answers.ensures.writes.ok,
      e.imported,
    )

pub returns-clause-ends : goal.returns-clause-ends
returns-clause-ends g c =
    let e = c.in-Ok.ensures in
    let items = c.as_slice-answers.ensures.value in
    let old = g.W.Write.contents c.args.writer.now in
    let new = g.W.Write.contents c.write_answers.new.writer in (
      Ok c.in-Ok.answers.items,
      true,
      refl,
      subst (λ (l : List LineAnswer). AppendsPrefix old new (answers_text 1 l)) items
          c.in-Err-write_answers.ensures.writes.err,
      e.imported,
    )

pub returns-in-Err-clause-calls : goal.returns-in-Err-clause-calls
returns-in-Err-clause-calls g c = record {
  failed = λ e.
      let written : c.import_fault.result ≡ Write = cc in
      absurd (no_failed_write c.in-Err.fault (sym c.import_fault.ensures ∙ written));
  none_forgotten = search rules;
}
