use Rattle.std.proofs.lemmas.Result.{on_ok_weaker}
use Rattle.sqlite.specs.Held.{state}
use Rattle.hotel_statements.proofs.Makers.{makes, adds}
use Rattle.hotel_statements.proofs.new_desk.make.Goals as goal

pub returns-clause-makes : goal.returns-clause-makes
returns-clause-makes g c =
    let text = c.args.text.now in
    let old = state g.S.Store c.args.tx.now.conn.now in
    let new = state g.S.Store c.run.new.tx.conn.now in
    record {
      runs = c.run.ensures.answers;
      made = λ clean. on_ok_weaker c.run.result (λ ran. (
        λ schema t maker bare. makes schema text t old new ran.0 maker (bare ran.1.1.was_open) ran.1,
        λ schema t maker has. adds schema text t old new ran.0 maker has ran.1,
      )) (c.run.ensures.runs.ran clean);
      kept = c.run.ensures.runs.kept;
      survives = c.run.ensures.runs.survives;
    }
