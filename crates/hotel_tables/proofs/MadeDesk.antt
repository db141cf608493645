-- The desk that is made, by the statements that make it and the commit of their transaction; and the database that is
-- left where none is made.
use Rattle.std.proofs.Common.{◌≡◌, true, false, true≢false, [], refl, sym, ap, subst, ◌∙◌, inl, inr, Ok, Err}
use Rattle.std.proofs.Common.{Result, OnOk, OnErr, IsTrue, arith}
use Rattle.sqlite.specs.Effect.{Database}
use Rattle.sqlite.specs.Tree.{Trees}
use Rattle.sqlite.specs.State.{State, HasCleanDisk, Survives, Shows, KeepsCounts, KeepsCommit, IsRolledBack}
use Rattle.sqlite.specs.Steps.{FailsToCommit}
use Rattle.sqlite.specs.declared.error.Error.{Error}
use Rattle.std.specs.Prelude.{IfErr}
use Rattle.hotel_statements.specs.Schema.{no_schema}
use Rattle.hotel_statements.specs.Books.{IsKept}
use Rattle.hotel_statements.specs.NewDesk.{IsBare, IsMade, IsEmptyDesk, IfOpen}

-- what a commit promises that was answered
abbrev IsCommitted : State → State → Type 0
IsCommitted old new =
    IsTrue old.in_transaction × Shows old new old.now old.now false × KeepsCounts old new × (new.marks ≡ [])

-- a transaction that was begun on a database that has nothing
bare_start : (old start : State) → start ≡ record old { in_transaction = true }
    → (IsTrue old.is_open → old.now.schema ≡ no_schema) → IsTrue start.is_open → IsBare no_schema start
bare_start old start begun bare =
    subst (λ (s : State). IsTrue s.is_open → IsBare no_schema s) (sym begun)
    (λ is_open. record { inside = refl; schema_is = bare is_open; empty = tt })

-- what was not committed is undone
pub undone : (old start ended new : State) (P : Trees → Type 0) → start ≡ record old { in_transaction = true }
    → (IsTrue old.is_open → old.now ≡ old.committed) → (HasCleanDisk ended → KeepsCommit start ended)
    → Survives ended new P → (HasCleanDisk new → IsRolledBack ended new) → IsKept new → new.now ≡ old.now
undone old start ended new P begun settled kept survives back is =
    let clean : HasCleanDisk ended = omega (arith, survives.clean, is.0) in
    let rolled = back is.0 in
    let ended_open = rolled.was_open is.1 in
    let start_open = (kept clean).was_open ended_open in
    let old_open : IsTrue old.is_open = subst (λ (s : State). IsTrue s.is_open) begun start_open in
    (rolled.undone is.1).0 ∙ (kept clean).committed ended_open ∙ ap (λ (s : State). s.committed) begun
    ∙ sym (settled old_open)

module _ (old start ended new : State) (P : Trees → Type 0) (begun : start ≡ record old { in_transaction = true })
    (bare : IsTrue old.is_open → old.now.schema ≡ no_schema)
    (made : HasCleanDisk ended → IfOpen (IsBare no_schema) IsMade start ended) (survives : Survives ended new P) where
  written : HasCleanDisk new → IsMade ended
  written clean =
      let clean_ended : HasCleanDisk ended = omega (arith, survives.clean, clean) in
      made clean_ended (bare_start old start begun bare)

  pub desk_made : (r : Result (Unit {0}) Error) → (HasCleanDisk new → OnOk r (IsCommitted ended new)) → HasCleanDisk new
      → OnOk r (IsEmptyDesk new.now.trees)
  desk_made r ok clean = go r (written clean) (ok clean)
    where
      go : (r : Result (Unit {0}) Error) → IsMade ended → OnOk r (IsCommitted ended new)
          → OnOk r (IsEmptyDesk new.now.trees)
      go (Ok u) made did = subst (λ (d : Database). IsEmptyDesk d.trees) (sym did.1.now_is) made.empty
      go (Err e) made did = tt

  -- where the commit failed, the database is as it was
  pub commit_undone : (r : Result (Unit {0}) Error) → (IsTrue old.is_open → old.now ≡ old.committed)
      → (HasCleanDisk ended → KeepsCommit start ended) → (HasCleanDisk new → IfErr r (FailsToCommit ended new))
      → IsKept new → OnErr r (new.now ≡ old.now)
  commit_undone (Ok u) settled kept err is = tt
  commit_undone (Err e) settled kept err is =
      undone old start ended new P begun settled kept survives (λ clean. back (written clean) (err clean)) is
    where
      back : IsMade ended → FailsToCommit ended new e → IsRolledBack ended new
      back made (inl fails) = fails.3
      back made (inr late) = absurd (true≢false (sym made.inside ∙ late.1))
