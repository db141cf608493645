-- Calls that are made one after the other.
use Rattle.std.proofs.Common.{◌≡◌, ◌+◌, ◌-◌, ◌<◌, ◌≤◌, ◌++◌, [], ◌∷◌, ℕ, List, Result, Err, length, arith}
use Rattle.std.specs.IoError.{error_kind}
use Rattle.std.specs.declared.io.Error.{Error}
use Rattle.std.specs.declared.io.ErrorKind.TheVariants.{Interrupted}
use Rattle.std.proofs.lemmas.List.{length-append}
use Rattle.keycard_rules.specs.Calls.{Passes}
use Rattle.keycard_rules.proofs.CallsTogether.{passes_push}
use Rattle.hotel_streams.specs.{Asked.Interrupts, Calls.Calls, Calls.NoneForgotten}
use Rattle.hotel_streams.specs.declared.calls.TheConstants.{LAST_INTERRUPTION}

pub none_forgotten : (c : Calls) → NoneForgotten c c
none_forgotten c = record { interrupted = omega arith; read_failed = λ e. e; write_failed = λ e. e }

pub then_none_forgotten : (a b c : Calls) → NoneForgotten a b → NoneForgotten b c → NoneForgotten a c
then_none_forgotten a b c h k = record {
  interrupted = omega (arith, h.interrupted, k.interrupted);
  read_failed = λ e. k.read_failed (h.read_failed e);
  write_failed = λ e. k.write_failed (h.write_failed e);
}

-- a call that is made again was interrupted, and is counted
pub asked_again : {S : Type 0} (called : S → Result ℕ Error → S → Type 0) (old mid new : S) (whys : List Error)
    (why : Error) (before now then : ℕ) → Passes (Interrupts called) old whys mid → called mid (Err why) new
    → error_kind why ≡ Interrupted → now ≡ before + length whys → then ≡ now + 1 → then < LAST_INTERRUPTION
    → (more : List Error) × Passes (Interrupts called) old more new × (then ≡ before + length more)
    × (length more ≤ (LAST_INTERRUPTION - 1) - before)
asked_again called old mid new whys why before now then again asked is counted next few =
    let long : length (whys ++ why ∷ []) ≡ length whys + 1 = length-append whys (why ∷ []) in (
      whys ++ why ∷ [],
      passes_push (Interrupts called) old whys again (asked, is),
      omega (arith, long),
      omega (arith, long),
    )
