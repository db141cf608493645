use Rattle.std.proofs.Common.{◌∙◌, Some, Option, ap, subst, sym}
use Rattle.hotel_core.specs.Books.Happens.{HappensBy}
use Rattle.hotel_asks.specs.declared.asked.Ask.{Ask}
use Rattle.hotel_program.specs.Script.Asks.{ask_in}
use Rattle.hotel_program.specs.Script.LineAnswers.{AskEnds}
use Rattle.hotel_program.proofs.OfScript.LineAnswerLemmas.{unread_ends, memory_ends}
use Rattle.hotel_program.proofs.script.line_answers.answer_line.Goals as goal

pub returns-in-Ok-Some-Command-clause-went : goal.returns-in-Ok-Some-Command-clause-went
returns-in-Ok-Some-Command-clause-went g c =
    let is = c.in-Ok-Some-Command.field-0-is ∙ ap (λ (a : Ask). Some a) c.in-Ok-Some-Command.field-0-0-is in
    let wanted = sym is ∙ c.in-Ok-Some-Command.ensures.read in
    subst (λ (w : Option Ask). HappensBy g.B.Kept g.B.Books c.args.books.now
    (AskEnds w (g.R.Rng.stream c.args.source.now) (g.R.Rng.stream c.answer_command.new.source)
    (g.W.Write.contents c.args.writer.now) (g.W.Write.contents c.answer_command.new.writer) c.answer_command.result
    (g.B.Kept.is_clean c.args.books.now)) c.answer_command.new.books) wanted c.answer_command.ensures.went

pub returns-in-Ok-Some-List-clause-went : goal.returns-in-Ok-Some-List-clause-went
returns-in-Ok-Some-List-clause-went g c =
    let is = c.in-Ok-Some-List.field-0-is ∙ ap (λ (a : Ask). Some a) c.in-Ok-Some-List.field-0-0-is in
    let wanted = sym is ∙ c.in-Ok-Some-List.ensures.read in
    let s = g.R.Rng.stream c.args.source.now in
    subst (λ (w : Option Ask). HappensBy g.B.Kept g.B.Books c.args.books.now (AskEnds w s s
    (g.W.Write.contents c.args.writer.now) (g.W.Write.contents c.answer_list.new.writer) c.answer_list.result
    (g.B.Kept.is_clean c.args.books.now)) c.answer_list.new.books) wanted (c.answer_list.ensures.went s)

pub returns-in-Ok-None-clause-went : goal.returns-in-Ok-None-clause-went
returns-in-Ok-None-clause-went g c =
    unread_ends c.args.books.now (ask_in c.args.line.now) _ _ _ c.write_answer.result
    (sym c.in-Ok-None.field-0-is ∙ c.in-Ok-None.ensures.read) c.write_answer.ensures.writes.ok
    c.write_answer.ensures.writes.err

pub returns-in-Err-clause-went : goal.returns-in-Err-clause-went
returns-in-Err-clause-went g c =
    memory_ends c.args.books.now (ask_in c.args.line.now) _ _ _ c.write_answer-in-Err.result
    c.in-Err.ensures.memory c.write_answer-in-Err.ensures.writes.ok c.write_answer-in-Err.ensures.writes.err
