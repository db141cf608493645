use Rattle.std.proofs.Common.{◌≡◌, OnOk, OnErr, IsTrue, ap, not, ◌∙◌, rules}
use Rattle.std.specs.Prelude.{IfErr}
use Rattle.std.proofs.lemmas.Result.{on_ok_weaker}
use Rattle.sqlite.specs.Held.{state}
use Rattle.sqlite.specs.State.{HasCleanDisk, Survives}
use Rattle.sqlite.proofs.StateLemmas.{survives_weaker}
use Rattle.hotel_statements.specs.Books.{IsKept}
use Rattle.hotel_statements.specs.NewDesk.{IsEmptyDesk}
use Rattle.hotel_statements.proofs.Transaction.{none_new}
use Rattle.hotel_statements.proofs.InTurn.{answered}
use Rattle.hotel_tables.specs.Causes.{FailsToWrite}
use Rattle.hotel_tables.specs.Exits.{makes_desk}
use Rattle.hotel_tables.proofs.Causes.{not_run, not_committed}
use Rattle.hotel_tables.proofs.MadeDesk.{desk_made, commit_undone, undone}
use Rattle.hotel_tables.proofs.create.make_desk.Goals as goal

pub returns-in_err-write_desk-clause-crash : goal.returns-in_err-write_desk-clause-crash
returns-in_err-write_desk-clause-crash g c =
    let old = state g.S.Store c.args.conn.now in
    let start = state g.S.Store c.transaction-tx.result.conn.now in
    let mid = state g.S.Store c.write_desk.new.tx.conn.now in
    let zero : Survives old start (λ _. ⊥) = search rules in
    let all : Survives old mid (λ _. ⊥) = none_new zero c.write_desk.ensures.makes.survives in
    search (
      rules,
      survives_weaker _ _ (λ _. ⊥) IsEmptyDesk (λ _ _ none. absurd none)
          (none_new all c.drop-tx.ensures.survives),
    )

pub returns-in_err-write_desk-clause-same : goal.returns-in_err-write_desk-clause-same
returns-in_err-write_desk-clause-same g c =
    let old = state g.S.Store c.args.conn.now in
    let settled : IsTrue old.is_open → old.now ≡ old.committed =
    c.is_autocommit-settled.ensures.settled (c.is_autocommit-settled.ensures.value ∙ ap not c.requires.alone) in
    let start = state g.S.Store c.transaction-tx.result.conn.now in
    let mid = state g.S.Store c.write_desk.new.tx.conn.now in
    search (
      rules,
      undone old start mid _ _ (ap (state g.S.Store) c.transaction-tx.ensures.begun) settled
          c.write_desk.ensures.makes.kept
          c.drop-tx.ensures.survives c.drop-tx.ensures.undone,
    )

pub returns-in_err-write_desk-clause-failed : goal.returns-in_err-write_desk-clause-failed
returns-in_err-write_desk-clause-failed g c =
    not_run g.S.Store c.args.conn.now c.transaction-tx.result.conn.now c.write_desk.new.tx.conn.now _
    c.from_residual.result c.transaction-tx.ensures.begun (answered c.from_residual.result c.from_residual.ensures.1)
    c.in_err-write_desk.ensures.makes.runs (search (rules, c.drop-tx.ensures.survives))

pub returns-clause-made : goal.returns-clause-made
returns-clause-made g c =
    let old = state g.S.Store c.args.conn.now in
    let new = state g.S.Store c.commit.new.self.0 in
    let start = state g.S.Store c.transaction-tx.result.conn.now in
    let made : HasCleanDisk new → OnOk c.commit.result (IsEmptyDesk new.now.trees) =
    desk_made old start (state g.S.Store c.write_desk.new.tx.conn.now) new _
    (ap (state g.S.Store) c.transaction-tx.ensures.begun) c.requires.bare c.in_ok-write_desk.ensures.makes.made
    c.commit.ensures.survives c.commit.result c.commit.ensures.ok in
    search (rules, λ (kept : IsKept new). made kept.0)

pub returns-clause-open_on : goal.returns-clause-open_on
returns-clause-open_on g c =
    let new = state g.S.Store c.commit.new.self.0 in
    let open_on : HasCleanDisk new → OnOk c.commit.result (IsTrue new.is_open) = λ clean.
    on_ok_weaker c.commit.result (λ did. did.1.is_open) (c.commit.ensures.ok clean) in
    search (rules, open_on)

pub returns-clause-same : goal.returns-clause-same
returns-clause-same g c =
    let old = state g.S.Store c.args.conn.now in
    let new = state g.S.Store c.commit.new.self.0 in
    let settled : IsTrue old.is_open → old.now ≡ old.committed =
    c.is_autocommit-settled.ensures.settled (c.is_autocommit-settled.ensures.value ∙ ap not c.requires.alone) in
    let start = state g.S.Store c.transaction-tx.result.conn.now in
    let same : IsKept new → OnErr c.commit.result (new.now ≡ old.now) =
    commit_undone old start (state g.S.Store c.write_desk.new.tx.conn.now) new _
    (ap (state g.S.Store) c.transaction-tx.ensures.begun) c.requires.bare c.in_ok-write_desk.ensures.makes.made
    c.commit.ensures.survives c.commit.result settled c.write_desk.ensures.makes.kept c.commit.ensures.err in
    search (rules, same)

pub returns-clause-failed : goal.returns-clause-failed
returns-clause-failed g c =
    let failed : IfErr c.commit.result (FailsToWrite g.S.Store makes_desk c.args.conn.now c.commit.new.self.0) =
    not_committed g.S.Store c.args.conn.now c.transaction-tx.result.conn.now c.write_desk.new.tx.conn.now
    c.commit.new.self.0 tt c.commit.result c.transaction-tx.ensures.begun c.in_ok-write_desk.ensures.makes.runs
    c.commit.ensures.survives c.commit.ensures.err in
    search (rules, failed)
