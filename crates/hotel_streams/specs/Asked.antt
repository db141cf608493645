-- One read or write, and how often it was asked for.
use Rattle.std.specs.Prelude.{◌≡◌, ◌≢◌, ◌≤◌, ◌+◌, ◌-◌, ℕ, List, length, Result, Ok, Err}
use Rattle.std.specs.IoError.{error_kind}
use Rattle.std.specs.declared.io.Error.{Error}
use Rattle.std.specs.declared.io.ErrorKind.TheVariants.{Interrupted}
use Rattle.keycard_rules.specs.Calls.{Passes}
use Rattle.hotel_streams.specs.declared.calls.TheConstants.{LAST_INTERRUPTION}

-- A call was interrupted.
abbrev pub Interrupts : {S : Type 0} → (S → Result ℕ Error → S → Type 0) → S → Error → S → Type 0
Interrupts called old why new = called old (Err why) new × (error_kind why ≡ Interrupted)

-- How many interrupted calls are counted behind a call that ended so: no more than before it, unless it was interrupted
-- too; then it was the last one.
abbrev pub IsCounted : ℕ → Result ℕ Error → ℕ → Type 0
IsCounted before (Ok done) after = after ≡ before
IsCounted before (Err why) after =
    (error_kind why ≢ Interrupted → after ≡ before)
    × (error_kind why ≡ Interrupted → (LAST_INTERRUPTION ≤ before + 1) × (after ≡ LAST_INTERRUPTION))

-- A call was made, and again only while it was interrupted and fewer than the last such call were counted. So it ended,
-- and this answers that.
pub record Asks {S : Type 0} (called : S → Result ℕ Error → S → Type 0) (old : S) (before : ℕ)
    (answers : Result ℕ Error → Type 0) (new : S) (after : ℕ) : Type 0 where
  pub whys : List Error
  pub mid : S
  pub again : Passes (Interrupts called) old whys mid
  pub few : length whys ≤ (LAST_INTERRUPTION - 1) - before
  pub end : Result ℕ Error
  pub ended : called mid end new
  pub counted : IsCounted (before + length whys) end after
  pub answered : answers end

-- The answer to a read that ended so.
abbrev pub ReadAnswers : {F : Type 0} → Result ℕ F → Result ℕ Error → Type 0
ReadAnswers (Ok n) (Ok got) = n ≡ got
ReadAnswers (Ok n) (Err why) = ⊥
ReadAnswers (Err failed) (Ok got) = ⊥
ReadAnswers (Err failed) (Err why) = Unit {0}

-- The answer to a write that ended so: it failed too where it took no byte.
abbrev pub WriteAnswers : {F : Type 0} → Result ℕ F → Result ℕ Error → Type 0
WriteAnswers (Ok n) (Ok taken) = n ≡ taken
WriteAnswers (Ok n) (Err why) = ⊥
WriteAnswers (Err failed) (Ok taken) = taken ≡ 0
WriteAnswers (Err failed) (Err why) = Unit {0}
