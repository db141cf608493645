use Rattle.hotel_http.proofs.ServeLemmas.{command_came}
use Rattle.hotel_http.proofs.serve.answer_command.Goals as goal

pub returns-clause-went : goal.returns-clause-went
returns-clause-went g c =
    command_came _ _ c.args.command.now c.step-reply.result _ _ _ c.step-reply.ensures
    c.answer_reply.ensures.ends
