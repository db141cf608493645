-- One write more was made in the time that was left.
use Rattle.std.proofs.Math.Logic.{∥∥₁_map}
use Rattle.hotel_program.proofs.TimedLemmas.{written_more}
use Rattle.hotel_program.proofs.timed.TimedWriterWrite.write.Goals as goal

pub invariant_of-self : goal.invariant_of-self
invariant_of-self g c = record {
  of = c.args.self.now.of;
  timed = ∥∥₁_map c.args.self.now.timed (written_more g.L.Caller c.args.self.now.stream.now _ _
      (c.args.bytes.now, c.write_within.result) c.write_within.ensures.timed);
}
