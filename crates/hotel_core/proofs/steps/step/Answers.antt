use Rattle.hotel_core.proofs.{OfCode.FailuresCounted.step_leaves, OfCode.Counting.untold}
use Rattle.hotel_core.proofs.OfCode.Happened.{step_happened, step_stops}
use Rattle.hotel_core.proofs.steps.step.Goals as goal

pub returns : goal.returns
returns g c =
    let out = c.carry_out-outcome.ensures in
    let is = c.reply_of-reply.ensures in
    record {
      happened = λ honest h reached stands.
          step_happened h c.args.command.now c.reply_of-reply.result c.known_command.ensures c.known_reply.ensures
          is out.steps honest reached stands;
      leaves = rw is (step_leaves c.known_sound.ensures out.steps);
      range = c.known_reply.ensures;
      sure = λ never takes. rw is (untold _ (out.sure never takes));
      stop = step_stops _ c.args.command.now c.known_command.ensures out.steps;
    }
