use Rattle.std.proofs.lemmas.Result.{on_ok_weaker}
use Rattle.sqlite.specs.Held.{state}
use Rattle.hotel_statements.proofs.Makers.{indexes}
use Rattle.hotel_statements.proofs.indexes.make_index.Goals as goal

pub returns-clause-makes : goal.returns-clause-makes
returns-clause-makes g c = record {
  runs = c.run.ensures.answers;
  made = λ clean. on_ok_weaker c.run.result (λ ran schema at t index maker has.
      indexes schema c.args.text.now at t index (state g.S.Store c.args.tx.now.conn.now)
      (state g.S.Store c.run.new.tx.conn.now) ran.0 maker has ran.1) (c.run.ensures.runs.ran clean);
  kept = c.run.ensures.runs.kept;
  survives = c.run.ensures.runs.survives;
}
