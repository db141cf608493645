use Rattle.hotel_model.specs.declared.command.Command.TheVariants as command
use Rattle.hotel_core.proofs.{OfCode.FailuresCounted.step_leaves, OfCode.Happened.step_happened}
use Rattle.hotel_core.proofs.OfCode.Happened.{step_stops}
use Rattle.std.proofs.Common.{[]}
use Rattle.rand_core.specs.Stream.{Stream}
use Rattle.hotel_books.proofs.Names.{false≢true}
use Rattle.hotel_core.proofs.OfCode.NoteReplies.{taken_reply}
use Rattle.hotel_core.proofs.steps.report.Goals as goal

-- any source will do
silent : Stream
silent = record { u32_after = λ calls. 0; u64_after = λ calls. 0; bytes_after = λ calls n. [] }

pub returns-clause-noted : goal.returns-clause-noted
returns-clause-noted g c = λ source.
    let taken = c.take_note-taken.ensures in
    let is = c.reply_of-reply.ensures in
    record {
      happened = λ honest h reached stands.
          step_happened h (command.Reported c.args.note.now) c.reply_of-reply.result c.known_note.ensures
          c.known_reply.ensures is (taken source) honest reached stands;
      leaves = rw is (step_leaves c.known_sound.ensures (taken source));
      range = c.known_reply.ensures;
      sure = λ never takes. absurd (false≢true takes);
      stop = step_stops source (command.Reported c.args.note.now) c.known_note.ensures (taken source);
    }

pub returns-clause-note : goal.returns-clause-note
returns-clause-note g c = λ honest.
    rw c.reply_of-reply.ensures (taken_reply _ _ (c.take_note-taken.ensures silent) honest)
