-- One read more was made in the time that was left.
use Rattle.std.proofs.Common.{◌∙◌, false, sym}
use Rattle.std.proofs.Math.Logic.{∥∥₁_map}
use Rattle.std.specs.Duration.{as_nanos}
use Rattle.hotel_program.proofs.TimedLemmas.{leaves_first, leaves_other, read_more}
use Rattle.hotel_program.proofs.timed.TimedReaderRead.read.Goals as goal

pub invariant_of-self : goal.invariant_of-self
invariant_of-self g c =
    let self = c.args.self.now in
    let got = c.read_within-got.result in
    let left = as_nanos c.read_within-got.new.left in
    record {
      of = self.of;
      timed = ∥∥₁_map self.timed (read_more g.L.Caller self.stream.now _
          (record { caller = c.read_within-got.new.caller; left = as_nanos c.patience-self.result; waits = false })
          (got, c.read_within-got.new.room) (
            left,
            c.read_within-got.ensures.timed,
            leaves_first self.waits got left _ (sym c.is_first.ensures ∙ c.if-is_first.true) c.patience-self.ensures,
          ));
    }

pub invariant_of-self-else-is_first : goal.invariant_of-self-else-is_first
invariant_of-self-else-is_first g c =
    let self = c.args.self.now in
    let got = c.read_within-got.result in
    let left = as_nanos c.read_within-got.new.left in
    record {
      of = self.of;
      timed = ∥∥₁_map self.timed (read_more g.L.Caller self.stream.now _
          (record { caller = c.read_within-got.new.caller; left = left; waits = self.waits })
          (got, c.read_within-got.new.room) (
            left,
            c.read_within-got.ensures.timed,
            leaves_other self.waits got left (sym c.is_first.ensures ∙ c.if-is_first.false),
          ));
    }
