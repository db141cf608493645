-- Calls of readers and writers that go wrong on purpose.
use Rattle.std.specs.Prelude.{◌≡◌, ◌-◌, ◌^◌, ℕ, nat_lt, Result, Ok, Err, if◌then◌else◌}
use Rattle.std.specs.IoError.{error_kind}
use Rattle.std.specs.declared.io.Error.{Error}
use Rattle.std.specs.declared.io.ErrorKind.{ErrorKind}

-- A call failed with an error of this kind, and left what it was asked of as it was.
abbrev pub FailsAs : {S : Type 0} → ErrorKind → S → Result ℕ Error → S → Type 0
FailsAs kind old (Ok done) new = ⊥
FailsAs kind old (Err why) new = (error_kind why ≡ kind) × (new ≡ old)

-- A call did nothing to what it was asked of, and answered that it had taken no byte.
abbrev pub TakesNoByte : {S : Type 0} → S → Result ℕ Error → S → Type 0
TakesNoByte old result new = (result ≡ Ok 0) × (new ≡ old)

-- How many calls are good behind a call: one fewer; behind the one that goes wrong, as many as are counted at most.
abbrev pub next_good : ℕ → ℕ
next_good good = if nat_lt 0 good then good - 1 else 2 ^ 32 - 1
