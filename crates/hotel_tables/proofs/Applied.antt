-- A look-up that was answered, and a change after it.
use Rattle.std.proofs.Common.{◌≡◌, Result, OnOk, OnErr, IsTrue, subst, arith}
use Rattle.sqlite.specs.Effect.{Database}
use Rattle.sqlite.specs.State.{State, HasCleanDisk}
use Rattle.sqlite.proofs.StateLemmas.{survives_then}
use Rattle.keycard_rules.specs.declared.issued.LookFault.{LookFault}
use Rattle.hotel_model.specs.declared.change.Change.{Change}
use Rattle.hotel_model.specs.Rows.{Rows}
use Rattle.hotel_model.specs.Refinement.Change.{made}
use Rattle.hotel_statements.specs.Tables.{rows_in}
use Rattle.hotel_statements.specs.Books.{IsKept}
use Rattle.hotel_statements.specs.LookUps.{LooksIf}
use Rattle.hotel_statements.specs.Steps.{IsMadeOf}
use Rattle.hotel_tables.specs.Applied.{Applies}

module _ {A R was : Type 0} {said : R → A} {wanted : Rows → A} (change : Change) (old mid : State)
    (r : Result R LookFault) (looks : LooksIf was said wanted old mid r) where
  -- a look-up that was answered, and then the change
  pub then_applies : (new : State) (result : Result (Unit {0}) LookFault)
      → (IsKept old → HasCleanDisk mid → IsTrue mid.is_open) → Applies change mid new result
      → Applies change old new result
  then_applies new result open_on applies = record {
    books = applies.books;
    was = λ kept. (looks.keeps (applies.was kept)).0;
    whole = λ kept. subst (λ (d : Database). OnOk result (rows_in new.now.trees ≡ made change (rows_in d.trees)))
        (looks.keeps (applies.was kept)).1 (applies.whole kept);
    same = λ kept. subst (λ (d : Database). OnErr result (new.now ≡ d))
        (looks.keeps (applies.was kept)).1 (applies.same kept);
    open_on = applies.open_on;
    crash = survives_then old mid new _ _ _ (λ clean db none kept. absurd (none kept)) (λ clean db made_so kept.
        let before : HasCleanDisk mid = omega (arith, applies.crash.clean, clean) in
        let mid_kept : IsKept mid = (before, open_on kept before) in
        subst (λ (d : Database). IsMadeOf (made change) d.trees db) (looks.keeps mid_kept).1 (made_so mid_kept))
        looks.crash applies.crash;
  }
