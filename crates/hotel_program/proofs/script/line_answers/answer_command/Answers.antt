-- The command's step is one of the model.
use Rattle.hotel_program.proofs.OfScript.LineAnswerLemmas.{command_ends}
use Rattle.hotel_program.proofs.script.line_answers.answer_command.Goals as goal

pub returns-clause-went : goal.returns-clause-went
returns-clause-went g c =
    command_ends _ _ c.args.command.now c.step.result _ _ c.write_answer.result c.step.ensures
    c.write_answer.ensures.writes.ok c.write_answer.ensures.writes.err
