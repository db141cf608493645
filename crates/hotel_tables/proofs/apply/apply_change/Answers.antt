use Rattle.std.proofs.Common.{◌≡◌, inl, inr, sym, ◌∙◌, subst, Some, arith}
use Rattle.std.specs.Prelude.{IsSome}
use Rattle.std.proofs.lemmas.Bool.{false≢true}
use Rattle.sqlite.specs.Effect.{Database}
use Rattle.sqlite.specs.Held.{state}
use Rattle.sqlite.specs.State.{HasCleanDisk}
use Rattle.hotel_statements.specs.Tables.{rows_in}
use Rattle.hotel_tables.specs.Applied.{MayMake, known_for}
use Rattle.hotel_tables.proofs.MayMake.{may_make}
use Rattle.hotel_tables.proofs.Causes.{passed}
use Rattle.hotel_tables.proofs.apply.apply_change.Goals as goal

pub make_change-requires-clause-fits : goal.make_change-requires-clause-fits
make_change-requires-clause-fits g c = λ kept.
    let change = c.args.change.now in
    let old = state g.S.Store c.args.conn.now in
    let known = c.in-Some.known in
    let same = c.in_ok-known.ensures.looks.keeps kept in
    let wanted : known_for change (rows_in old.now.trees) ≡ Some known =
    sym (c.in_ok-known.ensures.looks.found kept) ∙ c.in-Some.is in
    subst (λ (d : Database). MayMake change known (rows_in d.trees)) (sym same.1)
    (may_make change known (rows_in old.now.trees) (c.requires.fits same.0) wanted)

pub returns-in_err-known-clause-cause : goal.returns-in_err-known-clause-cause
returns-in_err-known-clause-cause g c = λ clean.
    passed _ c.from_residual.result c.from_residual.ensures inl (c.in_err-known.ensures.cause clean)

pub returns-in_default-clause-cause : goal.returns-in_default-clause-cause
returns-in_default-clause-cause g c = λ clean. absurd (false≢true (subst IsSome c.in_default.is
    (c.in_ok-known.ensures.there clean)))

pub returns-in-Err-clause-cause : goal.returns-in-Err-clause-cause
returns-in-Err-clause-cause g c = λ clean is.
    let asked = state g.S.Store c.known_for.new.conn in
    let before : HasCleanDisk asked = omega (arith, c.make_change.ensures.crash.clean, clean) in
    inr (record {
      begins = c.known_for.new.conn;
      asked = c.in_ok-known.ensures.asked before;
      known = c.in-Some.known;
      is_known = sym (c.in_ok-known.ensures.known before) ∙ c.in-Some.is;
      error = c.in-Err.error;
      is_store = sym c.fault_of.ensures ∙ is;
      failed = c.in-Err.ensures.failed;
    })
