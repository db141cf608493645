-- Failures that replies tell, and their counts along the parts of a step.
use Rattle.std.proofs.Common.{ℕ, ◌≡◌, true, false, Option, Some, None, refl, sym}
use Rattle.hotel_books.proofs.Names.{false≢true, LookFault, Reply, Refused, Memory, Store, is_failed, failure_in}
use Rattle.hotel_books.proofs.Names.{refusal_of}
use Rattle.keycard_rules.specs.Rise.{counted_on, one_of}
use Rattle.keycard_rules.specs.declared.issued.LookFault.TheVariants as look

-- a reply that reports none is no failure
pub unfailed : (answer : Reply) → failure_in answer ≡ None → is_failed answer ≡ false
unfailed (Refused Memory) e = cc
unfailed (Refused Store) e = cc
unfailed _ e = refl

pub untold : (answer : Reply) → is_failed answer ≡ false → failure_in answer ≡ None
untold (Refused Memory) e = absurd (false≢true (sym e))
untold (Refused Store) e = absurd (false≢true (sym e))
untold _ e = refl

-- a fault's refusal is a failure
pub faults : (fault : LookFault) → is_failed (Refused (refusal_of fault)) ≡ true
faults look.Memory = refl
faults look.Store = refl

-- and reports it
pub tells : (fault : LookFault) → failure_in (Refused (refusal_of fault)) ≡ Some fault
tells look.Memory = refl
tells look.Store = refl

-- where none is reported, no more are counted
pub none_more : (told : Option LookFault) (why : LookFault) (a b : ℕ)
    → told ≡ None → b ≡ a → b ≡ counted_on (one_of why told) a
none_more None look.Memory a b e p = p
none_more None look.Store a b e p = p
none_more (Some other) why a b e p = cc
