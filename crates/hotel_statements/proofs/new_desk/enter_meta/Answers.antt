use Rattle.std.proofs.lemmas.Result.{on_ok_weaker}
use Rattle.sqlite.specs.Held.{state}
use Rattle.hotel_statements.proofs.NewDesk.{enters_meta}
use Rattle.hotel_statements.proofs.new_desk.enter_meta.Goals as goal

pub returns-clause-makes : goal.returns-clause-makes
returns-clause-makes g c = record {
  runs = c.run.ensures.answers;
  made = λ clean. on_ok_weaker c.run.result (λ ran bare. enters_meta (state g.S.Store c.args.tx.now.conn.now)
      (state g.S.Store c.run.new.tx.conn.now) ran.0 ran.1 bare) (c.run.ensures.runs.ran clean);
  kept = c.run.ensures.runs.kept;
  survives = c.run.ensures.runs.survives;
}
