-- What a connection promises that is asked whether it answers.
use Rattle.std.specs.Prelude.{Result, OnOk}
use Rattle.sqlite.specs.State.{State, HasCleanDisk, IsUnchanged, Survives}
use Rattle.keycard_rules.specs.declared.issued.LookFault.{LookFault}
use Rattle.hotel_statements.specs.Books.{IsBooks, KeepsRows}
use Rattle.hotel_statements.specs.Failures.{DayFails}
use Rattle.hotel_statements.specs.LookUps.{HasCause}

-- A statement was compiled and not run, of a connection from old to new. Where that was answered over a disk that
-- returned what was written, the connection was open and is unchanged. No row is changed, and a crash leaves nothing
-- new, also where the connection was shut.
pub record IsReady (old new : State) (result : Result (Unit {0}) LookFault) : Type 0 where
  pub books : IsBooks new
  pub keeps : KeepsRows old new
  pub unchanged : HasCleanDisk new → OnOk result (IsUnchanged old new)
  pub cause : HasCause DayFails old new result
  pub crash : Survives old new (λ _. ⊥)
