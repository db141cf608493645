-- Calls that were made one after the other.
use Rattle.std.specs.Prelude.{◌≡◌, ◌≤◌, Bool, true, false, List, [], ◌∷◌, ◌++◌, Option, Some, IsSome, is_none, length}
use Rattle.std.specs.List.{AllByRecursion, list_all, list_any}
use Rattle.keycard_rules.specs.{declared.issued.LookFault.LookFault}
use Rattle.keycard_rules.specs.{declared.kept.Kept.Ghosts as KeptOf}
use Rattle.keycard_rules.specs.{Leaves.Leaves, Leaves.StaysClean, Rise.Counts, Rise.times, Since.Since}

-- There are states between: each of these was asked, or taken, in its turn, in the state that the one before it left.
abbrev pub Passes : {S A : Type 0} → (S → A → S → Type 0) → S → List A → S → Type 0
Passes after old [] new = new ≡ old
Passes {S = S} after old (item ∷ later) new = (mid : S) × after old item mid × Passes after mid later new

-- what calls reported, in turn: a failure, or none
abbrev pub Told : Type 0
Told = List (Option LookFault)

-- one of the calls was answered
abbrev pub any_answers : Told → Bool
any_answers told = list_any is_none told

-- none of them failed
abbrev pub all_answer : Told → Bool
all_answer told = list_all is_none told

-- Calls were made, and none of them failed.
abbrev pub NoCallFailed : Told → Type 0
NoCallFailed told = (1 ≤ length told) × (all_answer told ≡ true)

-- The last of them failed so, and no other one.
abbrev pub LastCallFailed : LookFault → Told → Type 0
LastCallFailed why told = (before : Told) × (all_answer before ≡ true) × (told ≡ before ++ Some why ∷ [])

-- the last of them was answered
abbrev pub last_answers : Told → Bool
last_answers [] = false
last_answers (told ∷ []) = is_none told
last_answers (first ∷ told ∷ later) = last_answers (told ∷ later)

-- Calls, from the state old to new, reported these failures, each one or none. They leave together what one does: where
-- the state is honest at their end, each failure was counted; any answer shows that it was clean as they began, and one
-- that is the last that it is as they end; and only a failure of the disk shuts it.
pub record LeaveAll {S : Type 0} (K : KeptOf S) (old : S) (told : Told) (new : S) : Type 0 where
  pub since : Since K old new
  pub counted : K.is_honest new → Counts (λ why. times why told) (K.failures old) (K.failures new)
  pub began : K.is_honest new → any_answers told ≡ true → K.is_clean old
  pub vouched : K.is_honest new → last_answers told ≡ true → K.is_clean new
  pub stays : K.is_honest new → StaysClean K old new

-- calls that were made one after the other leave so
abbrev pub CallsLeave : {S : Type 0} → KeptOf S → Type 0
CallsLeave {S = S} K =
    (old new : S) (told : Told) → Passes (Leaves K) old told new → LeaveAll K old told new

-- the state was not clean as the calls began, and is honest as they end
abbrev pub BeganShut : {S : Type 0} → KeptOf S → S → S → Type 0
BeganShut K old new = K.is_honest new × (K.is_clean old → ⊥)

-- such calls were answered nothing: each reported a failure
abbrev pub ShutCallsFail : {S : Type 0} → KeptOf S → Type 0
ShutCallsFail {S = S} K = (old new : S) (told : Told)
    → Passes (Leaves K) old told new → BeganShut K old new → AllByRecursion (λ t. IsSome t) told
