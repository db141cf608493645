use Rattle.hotel_core.proofs.steps.carry_out.Goals as goal

pub returns-in-Begin-clause-steps : goal.returns-in-Begin-clause-steps
returns-in-Begin-clause-steps g c =
    rw c.in-Begin.is (c.begin.ensures.steps (g.R.Rng.stream c.args.source.now))

pub returns-in-AddKind-clause-steps : goal.returns-in-AddKind-clause-steps
returns-in-AddKind-clause-steps g c =
    rw c.in-AddKind.is (c.add_kind.ensures (g.R.Rng.stream c.args.source.now))

pub returns-in-Reserve-clause-steps : goal.returns-in-Reserve-clause-steps
returns-in-Reserve-clause-steps g c =
    rw c.in-Reserve.is (c.reserve.ensures (g.R.Rng.stream c.args.source.now))

pub returns-in-Cancel-clause-steps : goal.returns-in-Cancel-clause-steps
returns-in-Cancel-clause-steps g c =
    rw c.in-Cancel.is (c.cancel.ensures (g.R.Rng.stream c.args.source.now))

pub returns-in-Spare-clause-steps : goal.returns-in-Spare-clause-steps
returns-in-Spare-clause-steps g c =
    rw c.in-Spare.is (c.spare.ensures (g.R.Rng.stream c.args.source.now))

pub returns-in-CheckOut-clause-steps : goal.returns-in-CheckOut-clause-steps
returns-in-CheckOut-clause-steps g c =
    rw c.in-CheckOut.is (c.check_out.ensures (g.R.Rng.stream c.args.source.now))

pub returns-in-NextDay-clause-steps : goal.returns-in-NextDay-clause-steps
returns-in-NextDay-clause-steps g c =
    rw c.in-NextDay.is (c.next_day.ensures.steps (g.R.Rng.stream c.args.source.now))

pub returns-in-Reported-clause-steps : goal.returns-in-Reported-clause-steps
returns-in-Reported-clause-steps g c =
    rw c.in-Reported.is (c.take_note.ensures (g.R.Rng.stream c.args.source.now))
