-- What a look-up of the books promises.
use Rattle.std.specs.Prelude.{ℕ, ◌≡◌, Bool, true, false, List, [], ◌∷◌, Result, IfOk}
use Rattle.keycard_rules.specs.{declared.issued.LookFault.LookFault, declared.kept.Kept.Ghosts as KeptOf}
use Rattle.keycard_rules.specs.Leaves.{Looks, told_by}
use Rattle.hotel_model.specs.declared.rows.CodeRow.{CodeRow}

-- the row of a code that stands at this place of this room
abbrev pub placed_row : ℕ × ℕ → CodeRow
placed_row at = record { room = at.0; place = at.1 }

-- there is one or more
abbrev pub is_any : {X : Type 0} → List X → Bool
is_any [] = false
is_any (x ∷ xs) = true

-- A look-up from the state old to new: where the state is honest at its end, its answer says what is wanted.
pub record LooksUp {S A R : Type 0} (K : KeptOf S) (takes_memory : Bool) (said : R → A) (wanted : A) (old new : S)
    (result : Result R LookFault) : Type 0 where
  pub answer : K.is_honest new → IfOk result (λ a. said a ≡ wanted)
  pub looks : Looks K takes_memory old (told_by result) new
