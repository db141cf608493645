-- What a call leaves of the state, whatever it answered.
use Rattle.std.specs.Prelude.{◌≡◌, ◌⊎◌, Bool, false, Option, Some, None, Result, Ok, Err, IfSome}
use Rattle.keycard_rules.specs.{declared.issued.LookFault.LookFault, declared.issued.LookFault.TheVariants.Store}
use Rattle.keycard_rules.specs.{declared.kept.Kept.Ghosts as KeptOf, Rise.Counts, Rise.HasRisen, Rise.one_of}
use Rattle.keycard_rules.specs.{Since.Since}

-- the failure that an answer reports, if it reports one
abbrev pub told_by : {R : Type 0} → Result R LookFault → Option LookFault
told_by (Ok answer) = None
told_by (Err why) = Some why

-- A state that was clean is clean, or a call of its disk failed.
abbrev pub StaysClean : {S : Type 0} → KeptOf S → S → S → Type 0
StaysClean K old new = K.is_clean old → K.is_clean new ⊎ HasRisen (K.disk_failures old) (K.disk_failures new)

-- A call, from the state old to new, reported this failure, or none. Nothing is mended and no failure is forgotten. And
-- where the state is honest at its end, the failure that it reported was counted; if it reported none, the state is
-- clean; and only a failure of the disk shuts one that was.
pub record Leaves {S : Type 0} (K : KeptOf S) (old : S) (told : Option LookFault) (new : S) : Type 0 where
  pub since : Since K old new
  pub counted : K.is_honest new → Counts (λ why. one_of why told) (K.failures old) (K.failures new)
  pub vouched : K.is_honest new → told ≡ None → K.is_clean new
  pub stays : K.is_honest new → StaysClean K old new

-- What a single call reported was counted, also where the state isn't honest.
abbrev pub Rose : {S : Type 0} → KeptOf S → S → Option LookFault → S → Type 0
Rose K old told new = IfSome told (λ why. HasRisen (K.failures old why) (K.failures new why))

-- A look-up or a walk: it leaves what any call does, and what was there; the store fails for a cause of its own; a stop
-- leaves nothing new; and what never fails doesn't, if no memory is taken.
pub record Looks {S : Type 0} (K : KeptOf S) (takes_memory : Bool) (old : S) (told : Option LookFault) (new : S)
    : Type 0 where
  pub leaves : Leaves K old told new
  pub rose : Rose K old told new
  pub kept : K.is_clean new → K.is_kept old new
  pub cause : K.is_honest new → told ≡ Some Store → K.look_up_fails old new
  pub stop : K.leaves_no_more old new
  pub sure : K.never_fails → takes_memory ≡ false → told ≡ None
