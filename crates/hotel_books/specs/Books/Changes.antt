-- What a change of the books promises.
use Rattle.std.specs.Prelude.{◌≡◌, false, Some, Result, Ok, Err, IsOk}
use Rattle.keycard_rules.specs.{declared.issued.LookFault.LookFault, declared.issued.LookFault.TheVariants.Store}
use Rattle.keycard_rules.specs.{declared.kept.Kept.Ghosts as KeptOf, Leaves.Leaves, Leaves.Rose, Leaves.told_by}
use Rattle.hotel_model.specs.{Rows.Rows, Refinement.Change.made, declared.change.Change.Change}
use Rattle.hotel_model.specs.Refinement.Fits.{takes_memory}

-- the rows after a change that was made, or wasn't
abbrev pub rows_after : Result (Unit {0}) LookFault → Change → Rows → Rows
rows_after (Ok done) change rows = made change rows
rows_after (Err why) change rows = rows

-- A change from the state b to c, before which a look-up, or nothing, went from a to b and left no row changed: a stop
-- leaves what the books say of this change from a.
abbrev pub ChangesAfter : {S : Type 0} → KeptOf S → (S → Rows) → (Change → S → S → Type 0) → Type 0
ChangesAfter {S = S} K rows leaves_change = (change : Change) (a b c : S) → (K.is_clean b → K.is_clean a)
    → (K.is_clean b → rows b ≡ rows a) → K.leaves_no_more a b → leaves_change change b c → leaves_change change a c

-- A change from the state old to new is made whole, or not at all. It leaves what any call does; the store fails for a
-- cause of its own; a stop leaves what the books say of a change; and what never fails doesn't, if no memory is taken.
pub record Makes {S : Type 0} (K : KeptOf S) (rows : S → Rows) (leaves_change change_fails : Change → S → S → Type 0)
    (change : Change) (old new : S) (result : Result (Unit {0}) LookFault) : Type 0 where
  pub whole : K.is_clean new → rows new ≡ rows_after result change (rows old)
  pub leaves : Leaves K old (told_by result) new
  pub rose : Rose K old (told_by result) new
  pub cause : K.is_honest new → told_by result ≡ Some Store → change_fails change old new
  pub stop : leaves_change change old new
  pub sure : K.never_fails → takes_memory change ≡ false → IsOk result
