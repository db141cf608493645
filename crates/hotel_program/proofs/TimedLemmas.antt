-- What is read and written, a call more at a time.
use Rattle.std.proofs.Common.{◌≡◌, ◌<◌, ◌+◌, ◌++◌, ℕ, List, [], ◌∷◌, Option, Some, Result, Ok, Err}
use Rattle.std.proofs.Common.{arith, true, false}
use Rattle.std.proofs.Common.{Bool, refl, sym, subst}
use Rattle.std.specs.Prelude.{if◌then◌else◌}
use Rattle.std.specs.Prelude.{is_err}
use Rattle.std.specs.declared.io.Error.{Error}
use Rattle.keycard_rules.proofs.CallsTogether.{passes_push}
use Rattle.hotel_program.specs.declared.listener.Caller.{Ghosts as CallerOf}
use Rattle.hotel_program.specs.Timed.{AreRead, AreWritten, LeavesTime, LingersOn, ReadSince, Reading, Reads}
use Rattle.hotel_program.specs.Timed.{ReadsInTime, ReadsOn, Writing, WritesInTime, WrittenSince, all_brought, brought}
use Rattle.hotel_program.specs.Timed.{is_first}
use Rattle.hotel_program.specs.declared.timed.TheConstants.{PATIENCE, REST_BYTES}

pub brought_more : (readings : List Reading) (reading : Reading)
    → all_brought (readings ++ reading ∷ []) ≡ all_brought readings + brought reading
brought_more [] reading = omega arith
brought_more (first ∷ readings) reading = let rest = brought_more readings reading in omega (arith, rest)

module _ {L : Type 0} (reads : L × ℕ → Reading → L × ℕ → Type 0) where
  pub read_on : (readings : List Reading) (reading : Reading) (old mid new : L × ℕ) → ReadsOn reads readings old mid
      → all_brought readings < REST_BYTES → reads mid reading new → ReadsOn reads (readings ++ reading ∷ []) old new
  read_on readings reading old mid new so_far few read =
      (readings, reading ∷ [], refl, passes_push reads old readings so_far.3 read, omega arith, few)

  pub not_lingered : (shut : Result (Unit {0}) Error) (old : L × ℕ) → is_err shut ≡ true → LingersOn reads shut old old
  not_lingered (Ok done) old was = absurd (cc)
  not_lingered (Err why) old was = refl

  pub lingered : (shut : Result (Unit {0}) Error) (readings : List Reading) (old new : L × ℕ) → is_err shut ≡ false
      → ReadsOn reads readings old new → LingersOn reads shut old new
  lingered (Ok done) readings old new was on = (readings, on)
  lingered (Err why) readings old new was on = absurd (cc)

-- what the first byte leaves of the time, and what another read does
pub leaves_first : (waits : Bool) (got : Result ℕ Error) (left new : ℕ) → is_first waits got ≡ true → new ≡ PATIENCE
    → LeavesTime waits got left new false
leaves_first waits got left new is e =
    subst (λ (b : Bool). (new ≡ (if b then PATIENCE else left)) × (false ≡ (if b then false else waits))) (sym is)
    (e, refl)

pub leaves_other : (waits : Bool) (got : Result ℕ Error) (left : ℕ) → is_first waits got ≡ false
    → LeavesTime waits got left left waits
leaves_other waits got left is =
    subst (λ (b : Bool). (left ≡ (if b then PATIENCE else left)) × (waits ≡ (if b then false else waits))) (sym is)
    (refl, refl)

module _ {S L : Type 0} (calls : CallerOf L S) {its_caller : Option L} where
  -- one read more
  pub read_more : (stream : S) (old new : Reads L) (reading : Reading) → ReadsInTime calls stream old reading new
      → ReadSince calls its_caller stream old → ReadSince calls its_caller stream new
  read_more stream old new reading read (first, is, readings, were) =
      (first, is, readings ++ reading ∷ [], passes_push (ReadsInTime calls stream) _ readings were read)

  -- one write more
  pub written_more : (stream : S) (old new : L × ℕ) (writing : Writing) → WritesInTime calls stream old writing new
      → WrittenSince calls its_caller stream old → WrittenSince calls its_caller stream new
  written_more stream old new writing written (first, is, writings, were) =
      (first, is, writings ++ writing ∷ [], passes_push (WritesInTime calls stream) _ writings were written)

  -- all reads were made of this connection since this caller
  pub since_read : (stream its : S) (first : L) (now : Reads L) → its_caller ≡ Some first → its ≡ stream
      → ReadSince calls its_caller its now → (readings : List Reading) × AreRead calls stream first readings now
  since_read stream its first now e same (caller, is, readings, were) =
      let begun : caller ≡ first = cc in (
        readings,
        subst (λ (s : S). AreRead calls s first readings now) same
            (subst (λ (l : L). AreRead calls its l readings now) begun were),
      )

  pub since_written : (stream its : S) (first : L) (now : L × ℕ) → its_caller ≡ Some first → its ≡ stream
      → WrittenSince calls its_caller its now → (writings : List Writing) × AreWritten calls stream first writings now
  since_written stream its first now e same (caller, is, writings, were) =
      let begun : caller ≡ first = cc in (
        writings,
        subst (λ (s : S). AreWritten calls s first writings now) same
            (subst (λ (l : L). AreWritten calls its l writings now) begun were),
      )
