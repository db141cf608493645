-- What a stop leaves over tables, as the laws of books say it.
use Rattle.std.proofs.Common.{◌≡◌, inl, refl, ap, ◌∙◌, le_refl}
use Rattle.sqlite.specs.State.{State}
use Rattle.sqlite.proofs.StateLemmas.{survives_then}
use Rattle.hotel_model.specs.declared.change.Change.{Change}
use Rattle.hotel_model.specs.Refinement.Change.{made}
use Rattle.hotel_statements.specs.{Books.IsKept, Steps.IsMadeOf, Tables.rows_in}
use Rattle.hotel_tables.specs.Applied.{LeavesChange, LeavesNothing}

-- a state leaves nothing that it couldn't leave
pub nothing_refl : (s : State) → LeavesNothing s s
nothing_refl s = record {
  clean = le_refl _;
  shield = λ h. h;
  counts = le_refl _;
  limit = refl;
  closes = λ clean is_open. inl is_open;
  crash = λ clean db left. inl left;
}

-- A crash in a change or after it leaves no more than if the change had begun where the look-ups before it did.
pub change_after : (change : Change) (a b c : State) → (IsKept b → IsKept a)
    → (IsKept b → rows_in b.now.trees ≡ rows_in a.now.trees) → LeavesNothing a b → LeavesChange change b c
    → LeavesChange change a c
change_after change a b c was same before stop = record {
  crash = survives_then a b c (λ _. ⊥) (λ db. IsKept b × IsMadeOf (made change) b.now.trees db)
      (λ db. IsKept a × IsMadeOf (made change) a.now.trees db) (λ clean db no. absurd no)
      (λ clean db it. (
        was it.0,
        record { tables = it.1.tables; rows_are = it.1.rows_are ∙ ap (made change) (same it.0) },
      )) before stop.crash;
  left = stop.left;
}
