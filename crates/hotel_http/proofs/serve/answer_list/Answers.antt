use Rattle.std.proofs.Common.{[], ℕ, List, subst, false, Ok, Err}
use Rattle.hotel_model.specs.declared.reply.Refusal.{Refusal}
use Rattle.hotel_model.specs.declared.reply.Reply.TheVariants.{Refused}
use Rattle.hotel_http.specs.{Answer.list_answer, Serve.full_answer, Serve.replied, Serve.EndsAs}
use Rattle.hotel_http.specs.{declared.status.Status.TheVariants.Success}
use Rattle.hotel_http.proofs.ServeLemmas.{ends_as, list_came}
use Rattle.hotel_http.proofs.serve.answer_list.Goals as goal

pub returns-in-Ok-clause-went : goal.returns-in-Ok-clause-went
returns-in-Ok-clause-went g c =
    let made = c.in-Ok.ensures in
    let old = g.W.Write.contents c.args.writer.now in
    let new = g.W.Write.contents c.write_csv-written.new.writer in
    let ends = ends_as (list_answer c.deref.result.now) Success false c.write_csv-written.result old new c.ended.result
    c.ended.ensures c.write_csv-written.ensures.writes.ok c.write_csv-written.ensures.writes.err in
    list_came c.args.list.now (Ok c.in-Ok.text.items) old new c.ended.result g.met.B.Books.kept_rows made.books
    made.text (subst (λ (t : List ℕ). EndsAs (full_answer (list_answer t) Success false) [] old new c.ended.result)
    c.deref.ensures.value ends)

pub returns-in-Err-clause-went : goal.returns-in-Err-clause-went
returns-in-Err-clause-went g c =
    list_came c.args.list.now (Err c.in-Err.fault) _ _ _ g.met.B.Books.kept_rows c.in-Err.ensures.books
    c.in-Err.ensures.text (subst (λ (why : Refusal). EndsAs (replied (Refused why)) []
    (g.W.Write.contents c.args.writer.now) (g.W.Write.contents c.answer_reply.new.writer) c.answer_reply.result)
    c.list_refusal.ensures
    c.answer_reply.ensures.ends)
