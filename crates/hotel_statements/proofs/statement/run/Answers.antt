use Rattle.std.proofs.Common.{◌≡◌, inl, inr, Ok, refl, ap, rules}
use Rattle.sqlite.specs.Held.{state}
use Rattle.sqlite.specs.Values.{bound}
use Rattle.hotel_statements.proofs.Writing.{commit_kept, failing, ran_inside, kept_inside}
use Rattle.hotel_statements.proofs.InTurn.{ran_one, answered}
use Rattle.hotel_statements.proofs.statement.run.Goals as goal

pub returns-in_err-execute-clause-runs : goal.returns-in_err-execute-clause-runs
returns-in_err-execute-clause-runs g c = record {
  ran = λ clean. failing _ c.from_residual.result c.from_residual.ensures.0;
  kept = λ clean. kept_inside _ _ _ _ _ _ (c.execute.ensures.runs clean)
      (λ no. ap (state g.S.Store) (c.execute.ensures.ended no).1);
  survives = c.execute.ensures.survives;
}

pub returns-clause-runs : goal.returns-clause-runs
returns-clause-runs g c =
    let old = state g.S.Store c.args.tx.now.conn.now in
    let is : c.execute.result ≡ Ok c.in_ok-execute.field-0 = search rules in
    let inside = ran_inside old.in_transaction _ _ _ _ is c.execute.ensures.ended in
    record {
      ran = λ clean. (c.in_ok-execute.field-0, c.in_ok-execute.ensures.runs clean inside);
      kept = λ clean. commit_kept c.args.text.now (bound c.args.params.now) old
          (state g.S.Store c.execute.new.self.conn.now) (Ok c.in_ok-execute.field-0)
          (c.in_ok-execute.ensures.runs clean inside);
      survives = c.execute.ensures.survives;
    }

pub returns-in_err-execute-clause-answers : goal.returns-in_err-execute-clause-answers
returns-in_err-execute-clause-answers g c = record {
  in_turn = λ clean. inl (
    _,
    ran_one g.S.Store _ _ _ _ (c.in_err-execute.ensures.runs clean) c.in_err-execute.ensures.ended,
    answered c.from_residual.result c.from_residual.ensures.1,
  );
}

pub returns-clause-answers : goal.returns-clause-answers
returns-clause-answers g c = record {
  in_turn = λ clean. inr (
    _,
    _,
    ran_one g.S.Store _ _ _ _ (c.in_ok-execute.ensures.runs clean) c.in_ok-execute.ensures.ended,
    (refl, refl),
  );
}
