use Rattle.std.proofs.Common.{[], sym, subst, List, ℕ}
use Rattle.hotel_core.specs.Books.Happens.{HappensBy}
use Rattle.hotel_http.specs.{Serve.Answered, Serve.TaskComes, Serve.FileComes, declared.tasks.Task.Task}
use Rattle.hotel_http.proofs.serve.answer_request.Goals as goal

pub returns-in-Audit-clause-went : goal.returns-in-Audit-clause-went
returns-in-Audit-clause-went g c =
    let old = g.W.Write.contents c.args.writer.now in
    let new = g.W.Write.contents c.answer_audit.new.writer in
    let s = g.R.Rng.stream c.args.source.now in
    let end = c.answer_audit.result in
    let went = subst (λ (l : List ℕ). HappensBy g.B.Kept g.B.Books c.args.books.now
    (Answered (FileComes l) s s [] old new end) c.answer_audit.new.books) c.deref.ensures.value
    (c.answer_audit.ensures.went s) in
    subst (λ (t : Task). HappensBy g.B.Kept g.B.Books c.args.books.now
    (Answered (TaskComes t c.args.request.now.body.items) s s [] old new end) c.answer_audit.new.books)
    (sym c.in-Audit.is) went
