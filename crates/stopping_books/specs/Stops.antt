-- Books in memory of which one call fails.
use Rattle.std.specs.Prelude.{ℕ, ◌≡◌, ◌+◌, ◌-◌, ◌^◌, ◌<◌, ◌==◌, ◌⊎◌, Bool, true, false, Option, Some}
use Rattle.std.specs.Prelude.{Result, Ok, Err, IfSome}
use Rattle.keycard_rules.specs.declared.issued.LookFault.{LookFault}
use Rattle.keycard_rules.specs.declared.issued.LookFault.TheVariants as look
use Rattle.keycard_rules.specs.{Rise.Counts, Rise.HasRisen, Rise.NoFewer, Rise.one_of}
use Rattle.hotel_books.specs.{declared.books.walks.WalkFault.WalkFault, Books.Walks.failure_of}
use Rattle.hotel_model.specs.Rows.{Rows}
use Rattle.hotel_books.specs.declared.books.walks.WalkFault.TheVariants as why
use Rattle.stopping_books.specs.declared.calls.Calls.{Calls}

-- the rows, the calls that were made and the one that is to fail, why it fails, and how many calls were answered Memory
-- and Store
pub record Stopping : Type 0 where
  pub rows : Rows
  pub calls : Calls
  pub cause : LookFault
  pub memory : ℕ
  pub store : ℕ

-- how many calls were answered so
abbrev pub counts : Stopping → LookFault → ℕ
counts books look.Memory = books.memory
counts books look.Store = books.store

-- One more call was made, and it fails exactly where its number is that of the one that is to fail, which stays so.
pub record MakesCall (old new : Calls) (fails : Bool) : Type 0 where
  pub next : old.made < 2 ^ 64 - 1 → new.made ≡ old.made + 1
  pub which : fails ≡ (new.made == old.failing)
  pub same : new.failing ≡ old.failing

-- No call was made, and the same one is still to fail, for the same cause; the rows are as they were.
pub record IsLeft (old new : Stopping) : Type 0 where
  pub rows : new.rows ≡ old.rows
  pub calls : new.calls ≡ old.calls
  pub cause : new.cause ≡ old.cause

-- One more call was made. It fails for its cause where its number is that of the one that is to fail, whatever the
-- books beneath would answer; the one that is to fail, and why, stay so.
pub record IsCall {R : Type 0} (old new : Stopping) (result : Result R LookFault) : Type 0 where
  pub next : old.calls.made < 2 ^ 64 - 1 → new.calls.made ≡ old.calls.made + 1
  pub stops : (new.calls.made == old.calls.failing) ≡ true → result ≡ Err old.cause
  pub same : new.calls.failing ≡ old.calls.failing
  pub cause : new.cause ≡ old.cause

-- A failure that was told is counted by its cause, and no other one is.
pub record CountsFailure (told : Option LookFault) (old new : Stopping) : Type 0 where
  pub no_fewer : NoFewer (counts old) (counts new)
  pub counted : Counts (λ why. one_of why told) (counts old) (counts new)
  pub rose : IfSome told (λ why. HasRisen (counts old why) (counts new why))

-- A sink before another one stops since a call failed, and hands nothing on; or since the other one stopped.
abbrev pub StopsEither : Bool → Type 0 → Type 0 → Type 0
StopsEither true untouched stopped = untouched
StopsEither false untouched stopped = stopped

-- How a walk ends, by the cause for which a call is to fail, how the walk beneath it ended, and whether a call failed
-- in it: as that one; or by a call that failed, one before a row or the last one.
abbrev pub EndsAs : LookFault → Result (Unit {0}) WalkFault → Bool → Result (Unit {0}) WalkFault → Type 0
EndsAs cause (Ok done) failed end = (end ≡ Ok done) ⊎ (failure_of end ≡ Some cause)
EndsAs cause (Err why.Stopped) true end = failure_of end ≡ Some cause
EndsAs cause (Err why.Stopped) false end = end ≡ Err why.Stopped
EndsAs cause (Err why.Memory) failed end = end ≡ Err why.Memory
EndsAs cause (Err why.Store) failed end = end ≡ Err why.Store
