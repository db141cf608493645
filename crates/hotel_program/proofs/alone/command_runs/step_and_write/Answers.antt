use Rattle.std.proofs.Common.{◌∙◌, true, false, refl, ap, subst, List, ℕ, Ok}
use Rattle.std.specs.Io.KnownBytes.{Appends}
use Rattle.hotel_streams.specs.Bytes.{AppendsPrefix}
use Rattle.hotel_program.proofs.alone.command_runs.step_and_write.Goals as goal

pub returns-in-Ok-clause-ends : goal.returns-in-Ok-clause-ends
returns-in-Ok-clause-ends g c =
    let text = c.as_bytes.ensures.same ∙ c.reply_text.ensures in (
      c.step-reply.result,
      false,
      ap Ok c.status_of.ensures.status,
      subst (λ (t : List ℕ). Appends (g.W.Write.contents c.args.writer.now)
          (g.W.Write.contents c.write_bytes.new.writer) t) text c.in-Ok.ensures.writes.ok,
      c.step-reply.ensures,
    )

pub returns-in-Err-clause-ends : goal.returns-in-Err-clause-ends
returns-in-Err-clause-ends g c =
    let text = c.as_bytes.ensures.same ∙ c.reply_text.ensures in (
      c.step-reply.result,
      true,
      refl,
      subst (λ (t : List ℕ). AppendsPrefix (g.W.Write.contents c.args.writer.now)
          (g.W.Write.contents c.write_bytes.new.writer) t) text c.in-Err.ensures.writes.err,
      c.step-reply.ensures,
    )
