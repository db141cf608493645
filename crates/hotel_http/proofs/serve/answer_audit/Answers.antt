use Rattle.std.proofs.Common.{◌≡◌, [], subst, List, Ok, Err, Bool}
use Rattle.hotel_audit.specs.Import.{has_taken}
use Rattle.hotel_audit.specs.declared.answer.LineAnswer.{LineAnswer}
use Rattle.hotel_http.specs.{AuditAnswer.lines_answer, AuditAnswer.fault_answer, AuditAnswer.import_status}
use Rattle.hotel_http.specs.{Serve.imported, Serve.ended, Serve.taken_before_fault, Serve.EndsAs}
use Rattle.hotel_http.specs.{declared.status.Status.Status, declared.status.Status.TheVariants.Success}
use Rattle.hotel_http.proofs.ServeLemmas.{ends_as, file_came}
use Rattle.hotel_http.proofs.serve.answer_audit.Goals as goal

pub returns-in-Ok-clause-went : goal.returns-in-Ok-clause-went
returns-in-Ok-clause-went g c =
    let old = g.W.Write.contents c.args.writer.now in
    let new = g.W.Write.contents c.write_audit-written.new.writer in
    let slice = c.as_slice-answers.result.now in
    let written = c.write_audit-written.result in
    let ends = ends_as (lines_answer slice) Success (has_taken slice) written old new c.ended.result
    (subst (λ (b : Bool). c.ended.result ≡ ended written Success b) c.has_taken.ensures c.ended.ensures)
    c.write_audit-written.ensures.writes.ok c.write_audit-written.ensures.writes.err in
    file_came c.args.file.now (Ok c.in-Ok.answers.items) old new c.ended.result c.in-Ok.ensures.imported
    (subst (λ (l : List LineAnswer). EndsAs (imported (Ok l)) [] old new c.ended.result)
    c.as_slice-answers.ensures.value ends)

pub returns-in-Err-clause-went : goal.returns-in-Err-clause-went
returns-in-Err-clause-went g c =
    let old = g.W.Write.contents c.args.writer.now in
    let new = g.W.Write.contents c.write_fault-written.new.writer in
    let why = c.in-Err.why in
    let written = c.write_fault-written.result in
    let ends = ends_as (fault_answer why) (import_status why) (taken_before_fault why) written old new
    c.ended-in-Err.result
    (subst (λ (b : Bool). c.ended-in-Err.result ≡ ended written (import_status why) b) c.taken_by.ensures
    (subst (λ (s : Status). c.ended-in-Err.result ≡ ended written s c.taken_by.result)
    c.fault_status.ensures c.ended-in-Err.ensures))
    c.write_fault-written.ensures.writes.ok c.write_fault-written.ensures.writes.err in
    file_came c.args.file.now (Err why) old new c.ended-in-Err.result c.in-Err.ensures.imported ends
