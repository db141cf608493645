use Rattle.std.proofs.Common.{ap, sym, ◌∙◌, OnOk, IsTrue, rules}
use Rattle.std.specs.Prelude.{IfErr}
use Rattle.std.proofs.lemmas.Result.{on_ok_weaker}
use Rattle.sqlite.specs.Effect.{Database}
use Rattle.sqlite.specs.Held.{state}
use Rattle.sqlite.specs.State.{HasCleanDisk, Survives}
use Rattle.hotel_statements.specs.Books.{IsKept}
use Rattle.hotel_tables.specs.Applied.{LeavesAll}
use Rattle.hotel_statements.specs.Statements.{completes}
use Rattle.hotel_tables.specs.Causes.{FailsToWrite}
use Rattle.hotel_tables.proofs.Causes.{not_run, not_committed}
use Rattle.hotel_tables.proofs.Migrated.{ended, made, crash}
use Rattle.hotel_statements.proofs.InTurn.{answered}
use Rattle.hotel_tables.proofs.migration.migrate.Goals as goal

pub returns-clause-books : goal.returns-clause-books
returns-clause-books g c =
    let it = ended g.S.Store _ c.args.conn.now c.transaction-tx.result.conn.now c.complete.new.tx.conn.now
    c.commit.new.self.0 c.commit.result c.requires.books c.transaction-tx.ensures.begun
    c.in_ok-complete.ensures.makes c.commit.ensures.survives
    c.commit.ensures.ended c.commit.ensures.ok c.commit.ensures.err in
    search (rules, it.books)

pub returns-clause-left : goal.returns-clause-left
returns-clause-left g c =
    let it = ended g.S.Store _ c.args.conn.now c.transaction-tx.result.conn.now c.complete.new.tx.conn.now
    c.commit.new.self.0 c.commit.result c.requires.books c.transaction-tx.ensures.begun
    c.in_ok-complete.ensures.makes c.commit.ensures.survives
    c.commit.ensures.ended c.commit.ensures.ok c.commit.ensures.err in
    search (rules, it.left)

pub returns-clause-was : goal.returns-clause-was
returns-clause-was g c =
    let it = ended g.S.Store _ c.args.conn.now c.transaction-tx.result.conn.now c.complete.new.tx.conn.now
    c.commit.new.self.0 c.commit.result c.requires.books c.transaction-tx.ensures.begun
    c.in_ok-complete.ensures.makes c.commit.ensures.survives
    c.commit.ensures.ended c.commit.ensures.ok c.commit.ensures.err in
    search (rules, it.was)

pub returns-clause-same : goal.returns-clause-same
returns-clause-same g c =
    let it = ended g.S.Store _ c.args.conn.now c.transaction-tx.result.conn.now c.complete.new.tx.conn.now
    c.commit.new.self.0 c.commit.result c.requires.books c.transaction-tx.ensures.begun
    c.in_ok-complete.ensures.makes c.commit.ensures.survives
    c.commit.ensures.ended c.commit.ensures.ok c.commit.ensures.err in
    search (rules, it.same)

pub returns-clause-whole : goal.returns-clause-whole
returns-clause-whole g c =
    let it = ended g.S.Store _ c.args.conn.now c.transaction-tx.result.conn.now c.complete.new.tx.conn.now
    c.commit.new.self.0 c.commit.result c.requires.books c.transaction-tx.ensures.begun
    c.in_ok-complete.ensures.makes c.commit.ensures.survives
    c.commit.ensures.ended c.commit.ensures.ok c.commit.ensures.err in
    let new = state g.S.Store c.commit.new.self.0 in
    let whole : IsKept new → OnOk c.commit.result (LeavesAll new) = λ kept.
    on_ok_weaker c.commit.result
    (λ books db left.
    g.met.S.Store.settled c.commit.new.self.0.store db kept.1 left
    ∙ sym (ap (λ (d : Database). d.trees) (books.desk kept).settled)) it.books in
    search (rules, whole)

pub returns-clause-open_on : goal.returns-clause-open_on
returns-clause-open_on g c =
    let new = state g.S.Store c.commit.new.self.0 in
    let open_on : HasCleanDisk new → OnOk c.commit.result (IsTrue new.is_open) = λ clean.
    on_ok_weaker c.commit.result (λ did. did.1.is_open) (c.commit.ensures.ok clean) in
    search (rules, open_on)

pub returns-clause-made : goal.returns-clause-made
returns-clause-made g c =
    let it = ended g.S.Store _ c.args.conn.now c.transaction-tx.result.conn.now c.complete.new.tx.conn.now
    c.commit.new.self.0 c.commit.result c.requires.books c.transaction-tx.ensures.begun
    c.in_ok-complete.ensures.makes c.commit.ensures.survives
    c.commit.ensures.ended c.commit.ensures.ok c.commit.ensures.err in
    let rows_are = made g.S.Store _ c.args.conn.now c.transaction-tx.result.conn.now c.complete.new.tx.conn.now
    c.commit.new.self.0 c.commit.result c.requires.books c.transaction-tx.ensures.begun
    c.in_ok-complete.ensures.makes c.commit.ensures.survives
    c.requires.rooms it in
    search (rules, rows_are)

pub returns-clause-crash : goal.returns-clause-crash
returns-clause-crash g c =
    let zero : Survives (state g.S.Store c.args.conn.now) (state g.S.Store c.transaction-tx.result.conn.now) (λ _. ⊥) =
    search rules in
    let whole = crash g.S.Store _ c.args.conn.now c.transaction-tx.result.conn.now c.complete.new.tx.conn.now
    c.commit.new.self.0 c.commit.result c.requires.books c.transaction-tx.ensures.begun
    c.in_ok-complete.ensures.makes c.commit.ensures.survives
    c.requires.rooms zero in
    search (rules, whole)

pub returns-clause-failed : goal.returns-clause-failed
returns-clause-failed g c =
    let failed : IfErr c.commit.result
    (FailsToWrite g.S.Store (completes c.args.layout c.args.rooms.now) c.args.conn.now c.commit.new.self.0) =
    not_committed g.S.Store c.args.conn.now c.transaction-tx.result.conn.now c.complete.new.tx.conn.now
    c.commit.new.self.0 tt c.commit.result c.transaction-tx.ensures.begun c.in_ok-complete.ensures.makes.runs
    c.commit.ensures.survives c.commit.ensures.err in
    search (rules, failed)

pub returns-in_err-complete-clause-failed : goal.returns-in_err-complete-clause-failed
returns-in_err-complete-clause-failed g c =
    not_run g.S.Store c.args.conn.now c.transaction-tx.result.conn.now c.complete.new.tx.conn.now _
    c.from_residual.result c.transaction-tx.ensures.begun (answered c.from_residual.result c.from_residual.ensures.1)
    c.in_err-complete.ensures.makes.runs (search (rules, c.drop-tx.ensures.survives))
