use Rattle.std.proofs.Common.{ap, rules}
use Rattle.std.specs.Prelude.{IfErr}
use Rattle.sqlite.specs.Held.{state}
use Rattle.sqlite.specs.State.{Survives}
use Rattle.hotel_model.specs.Refinement.Change.{made}
use Rattle.hotel_statements.specs.declared.version.Layout.TheVariants.{Nine}
use Rattle.hotel_statements.specs.declared.version.TheConstants.{INDEXES}
use Rattle.hotel_statements.proofs.Transaction.{Begins}
use Rattle.hotel_statements.proofs.Ends.{Ends, ended}
use Rattle.hotel_statements.specs.Statements.{statements_of}
use Rattle.hotel_statements.proofs.InTurn.{answered}
use Rattle.hotel_tables.specs.Causes.{FailsToWrite}
use Rattle.hotel_tables.proofs.Causes.{not_run, not_committed}
use Rattle.hotel_tables.proofs.apply.make_change.Goals as goal

pub returns-in_err-write_change-clause-failed : goal.returns-in_err-write_change-clause-failed
returns-in_err-write_change-clause-failed g c =
    not_run g.S.Store c.args.conn.now c.transaction-tx.result.conn.now c.write_change.new.tx.conn.now _
    c.from_residual.result c.transaction-tx.ensures.begun (answered c.from_residual.result c.from_residual.ensures.1)
    c.in_err-write_change.ensures.makes.runs (search (rules, c.drop-tx.ensures.survives))

pub returns : goal.returns
returns g c =
    let old = state g.S.Store c.args.conn.now in
    let start = state g.S.Store c.transaction-tx.result.conn.now in
    let begins : Begins (Nine INDEXES) old start = record {
      books = c.requires.books;
      begun = ap (state g.S.Store)
          c.transaction-tx.ensures.begun;
    } in
    let zero : Survives old start (λ _. ⊥) = search rules in
    let new = state g.S.Store c.commit.new.self.0 in
    let it : Ends (made c.args.change.now) old new c.commit.result =
    ended begins c.requires.fits c.in_ok-write_change.ensures.makes.rows new c.commit.result zero
    c.commit.ensures.ended c.commit.ensures.ok c.commit.ensures.err c.commit.ensures.survives in
    let failed : IfErr c.commit.result (FailsToWrite g.S.Store (statements_of c.args.change.now c.args.known)
    c.args.conn.now c.commit.new.self.0) =
    not_committed g.S.Store c.args.conn.now c.transaction-tx.result.conn.now c.write_change.new.tx.conn.now
    c.commit.new.self.0 tt c.commit.result c.transaction-tx.ensures.begun c.in_ok-write_change.ensures.makes.runs
    c.commit.ensures.survives c.commit.ensures.err in
    record {
      books = search (rules, it.books);
      was = search (rules, it.was);
      open_on = search (rules, it.open_on);
      made = search (rules, it.made);
      same = search (rules, it.same);
      crash = search (rules, it.crash);
      failed = search (rules, failed);
    }
