-- The number of a room's next lock, where one is left.
use Rattle.std.proofs.Common.{ℕ, ◌≡◌, ◌<◌, ◌+◌, true, false, Option, Some, None, sym, subst, arith, nat_le}
use Rattle.std.specs.Option.{SomeIff}
use Rattle.hotel_model.proofs.OfTables.Tests.{le_tested, not_le}

pub used_up : (fit : ℕ) (next : Option ℕ) → SomeIff next (fit < 99) (fit + 1) → next ≡ None → nat_le 99 fit ≡ true
used_up fit next s e = le_tested 99 fit (let none = subst (λ o. SomeIff o (fit < 99) (fit + 1)) e s in omega arith)

pub is_left : (fit number : ℕ) (next : Option ℕ)
    → SomeIff next (fit < 99) (fit + 1) → next ≡ Some number → (nat_le 99 fit ≡ false) × (fit + 1 ≡ number)
is_left fit number next s e =
    let some = subst (λ o. SomeIff o (fit < 99) (fit + 1)) e s in (not_le 99 fit some.0, sym some.1)
