use Rattle.std.proofs.Common.{◌≡◌, ◌∙◌, ◌+◌, subst, Ok, Err, List, [], ◌∷◌, ◌++◌, length, take, arith, sym}
use Rattle.std.proofs.Common.{refl, ap, inl}
use Rattle.std.specs.Prelude.{zip}
use Rattle.std.proofs.lemmas.List.{take_all}
use Rattle.keycard_rules.specs.Calls.{Passes}
use Rattle.hotel_books.proofs.Names.{take_more}
use Rattle.hotel_audit.specs.{declared.answer.LineAnswer.LineAnswer, declared.imports.ImportFault.ImportFault}
use Rattle.hotel_audit.specs.Import.{AreAnswered, Imports, LineImported, has_taken, stopped}
use Rattle.hotel_lock.specs.declared.audit_file.AuditFault.TheVariants as fault
use Rattle.hotel_audit.proofs.LineAnswers.{AreAnswered-append, passes_next}
use Rattle.hotel_audit.proofs.ImportEnds.{answered_before, none_begun}
use Rattle.hotel_audit.proofs.imports.import_lines.Goals as goal

pub loop-line-init : goal.loop-line-init
loop-line-init g c = record {
  room = omega (arith, c.in-Ok.ensures.capacity);
  number = c.in-Ok.ensures.len;
  each = rw (c.in-Ok.ensures.items) tt;
  through = refl;
}

pub returns-in_default : goal.returns-in_default
returns-in_default g c = none_begun g.B.Kept g.B.Books c.args.books.now (Ok c.args.lines.now) fault.Memory
    (inl refl)

pub returns-in-Err : goal.returns-in-Err
returns-in-Err g c =
    let inv = c.loop-line.invariant in
    let xs = c.args.lines.now in
    let i = c.loop-line.line-index in
    let by = c.in-Err.by in
    let given = c.loop-line.answers.items in
    let own = g.B.Books in
    let old = c.args.books.now in
    let new = c.answer_line.new.books in
    let more : take (i + 1) xs ≡ take i xs ++ c.line-item.result ∷ [] =
    take_more xs i c.line-item.result c.loop-line-test.true ∙ ap (λ x. take i xs ++ x ∷ []) (sym c.line-item.is) in
    let why : c.stopped.result ≡ stopped by (length given) (has_taken given) =
    c.stopped.ensures ∙ ap (λ (l : List LineAnswer). stopped by (length l) (has_taken l)) c.as_slice.ensures.value in
    subst (λ (fault : ImportFault). Imports g.B.Kept own (Ok xs) old new (Err fault)) (sym why)
    (answered_before g.B.Kept own old c.loop-line.books new xs i given by inv.each inv.through c.line-item.result more
    c.in-Err.ensures.went)

pub returns : goal.returns
returns g c =
    let inv = c.loop-line.invariant in
    let all : take c.loop-line.line-index c.args.lines.now ≡ c.args.lines.now = take_all _ _ c.loop-line-test.false in
    let given = c.loop-line.answers.items in
    record {
      lines = c.args.lines.now;
      answers = given;
      each = subst (λ lines. AreAnswered lines given) all inv.each;
      ends = (refl, refl);
      behind = c.loop-line.books;
      through = subst (λ lines. Passes (LineImported g.B.Kept g.B.Books) c.args.books.now (zip lines given)
          c.loop-line.books) all inv.through;
      leaves = refl;
    }

pub loop-line-preserved : goal.loop-line-preserved
loop-line-preserved g c =
    let inv = c.loop-line.invariant in
    let f = c.in-Ok-answer_line.ensures in
    let xs = c.args.lines.now in
    let i = c.loop-line.line-index in
    let e : take (i + 1) xs ≡ take i xs ++ c.line-item.result ∷ [] =
    take_more xs i c.line-item.result c.loop-line-test.true ∙ ap (λ x. take i xs ++ x ∷ []) (sym c.line-item.is) in
    record {
      room = omega (arith, c.in-Ok-push.ensures.capacity, inv.room);
      number = omega (arith, c.in-Ok-push.ensures.len, inv.number);
      each = rw (e, c.in-Ok-push.ensures.items) (AreAnswered-append (take i xs) (c.line-item.result ∷ [])
          c.loop-line.answers.items (c.in-Ok-answer_line.answer ∷ []) inv.each (f.answer, tt));
      through = rw (e, c.in-Ok-push.ensures.items) (passes_next (LineImported g.B.Kept g.B.Books) c.args.books.now
          (take i xs) c.loop-line.answers.items c.line-item.result c.in-Ok-answer_line.answer inv.each inv.through
          f.went);
    }
