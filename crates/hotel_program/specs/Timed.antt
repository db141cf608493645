-- Calls of a connection that are made in the time that is left for them.
use Rattle.std.specs.Prelude.{◌≡◌, ◌<◌, ◌≤◌, ◌+◌, ◌-◌, ◌&&◌, ℕ, nat_lt, Bool, true, false, List, [], ◌∷◌, ◌++◌, length}
use Rattle.std.specs.Prelude.{Option, Some, Result, Ok, Err, is_ok}
use Rattle.std.specs.Prelude.{if◌then◌else◌}
use Rattle.std.specs.Time.{instant_nanos}
use Rattle.std.specs.declared.io.Error.{Error}
use Rattle.std.specs.declared.time.Instant.{Instant}
use Rattle.keycard_rules.specs.Calls.{Passes}
use Rattle.hotel_program.specs.declared.listener.Caller.{Ghosts as CallerOf}
use Rattle.hotel_program.specs.declared.timed.TheConstants.{FIRST_PATIENCE, PATIENCE, REST_BYTES, SILENCE}

-- What is left of a time after what passed between two readings of the clock.
abbrev pub left_after : ℕ → Instant → Instant → ℕ
left_after left begun ended = left - (instant_nanos ended - instant_nanos begun)

-- What is left of it by a reading of the clock behind a call: nothing, where the clock gave no time.
abbrev pub left_at : ℕ → Instant → Result Instant Error → ℕ
left_at left begun (Ok ended) = left_after left begun ended
left_at left begun (Err why) = 0

-- By the reading of the clock before it, a call was made, and then the clock was read again. Where the clock gave no
-- time before it, its error is the answer, and nothing was done.
abbrev pub CallBegins : {L : Type 0} → (L → Result Instant Error → L → Type 0) → (L → Result ℕ Error → L → Type 0)
    → ℕ → Result Instant Error → L → Result ℕ Error → ℕ → L → Type 0
CallBegins clock_read called left (Ok begun) old got rest new =
    (mid : _) × (ended : Result Instant Error)
    × called old got mid × clock_read mid ended new × (rest ≡ left_at left begun ended)
CallBegins clock_read called left (Err why) old got rest new = (got ≡ Err why) × (rest ≡ left) × (new ≡ old)

-- By what came of setting its limit, a call was made between two readings of the clock. Where the limit wasn't set,
-- that error is the answer, and nothing was done.
abbrev pub CallLimited : {L : Type 0} → (L → Result Instant Error → L → Type 0) → (L → Result ℕ Error → L → Type 0)
    → ℕ → Result (Unit {0}) Error → L → Result ℕ Error → ℕ → L → Type 0
CallLimited clock_read called left (Ok set) old got rest new =
    (begun : Result Instant Error) × (mid : _)
    × clock_read old begun mid × CallBegins clock_read called left begun mid got rest new
CallLimited clock_read called left (Err why) old got rest new = (got ≡ Err why) × (rest ≡ left) × (new ≡ old)

-- A call was made in the time that was left for it: its limit was asked for, which is all that was left, and then it
-- was made between two readings of the clock.
abbrev pub CallInTime : {L : Type 0} → (L → ℕ → Result (Unit {0}) Error → L → Type 0)
    → (L → Result Instant Error → L → Type 0) → (L → Result ℕ Error → L → Type 0)
    → L → ℕ → Result ℕ Error → ℕ → L → Type 0
CallInTime limited clock_read called old left got rest new =
    (set : Result (Unit {0}) Error) × (mid : _)
    × limited old left set mid × CallLimited clock_read called left set mid got rest new

-- Whether two limits were set, by what came of the first: the second is asked for where it was.
abbrev pub SecondSet : {L : Type 0} → (L → Result (Unit {0}) Error → L → Type 0)
    → Result (Unit {0}) Error → L → L → Bool → Type 0
SecondSet limited (Ok set) old new both =
    (second : Result (Unit {0}) Error) × limited old second new × (both ≡ is_ok second)
SecondSet limited (Err why) old new both = (new ≡ old) × (both ≡ false)

-- A read brought the first byte, where none had come.
abbrev pub is_first : Bool → Result ℕ Error → Bool
is_first waits (Ok count) = waits && nat_lt 0 count
is_first waits (Err why) = false

-- What a read leaves of the time of a connection, and whether its first byte is still waited for: as much as the call
-- left; or, behind the first byte, `PATIENCE`.
abbrev pub LeavesTime : Bool → Result ℕ Error → ℕ → ℕ → Bool → Type 0
LeavesTime waits got left new waits' =
    (new ≡ (if is_first waits got then PATIENCE else left)) × (waits' ≡ (if is_first waits got then false else waits))

-- Where the reads of a connection stand: its caller, what is left of their time, and whether no byte has come.
pub record Reads (L : Type 0) : Type 0 where
  pub caller : L
  pub left : ℕ
  pub waits : Bool

-- A read: what it gave, and what it left in the room.
abbrev pub Reading : Type 0
Reading = Result ℕ Error × List ℕ

-- A read was made in the time that was left.
abbrev pub ReadsInTime : {S L : Type 0} → CallerOf L S → S → Reads L → Reading → Reads L → Type 0
ReadsInTime calls stream old reading new =
    (left : ℕ)
    × CallInTime (calls.reads_limited stream) calls.clock_read (λ l got l'. calls.was_read stream l got reading.1 l')
    old.caller old.left reading.0 left new.caller × LeavesTime old.waits reading.0 left new.left new.waits

-- From the first caller on, all reads were made in the time that was left.
abbrev pub AreRead : {S L : Type 0} → CallerOf L S → S → L → List Reading → Reads L → Type 0
AreRead calls stream first readings now =
    Passes (ReadsInTime calls stream) (record { caller = first; left = FIRST_PATIENCE; waits = true }) readings now

-- A write: its bytes, and how many it took.
abbrev pub Writing : Type 0
Writing = List ℕ × Result ℕ Error

-- From a caller and what was left of the time of its writes to these behind it, a write was made in that time.
abbrev pub WritesInTime : {S L : Type 0} → CallerOf L S → S → L × ℕ → Writing → L × ℕ → Type 0
WritesInTime calls stream old writing new =
    CallInTime (calls.writes_limited stream) calls.clock_read (λ l. calls.was_written stream l writing.0)
    old.0 old.1 writing.1 new.1 new.0

-- From the first caller on, all writes were made in the time that was left.
abbrev pub AreWritten : {S L : Type 0} → CallerOf L S → S → L → List Writing → L × ℕ → Type 0
AreWritten calls stream first writings now = Passes (WritesInTime calls stream) (first, PATIENCE) writings now

-- So all reads were made since the caller that reads began.
abbrev pub ReadSince : {S L : Type 0} → CallerOf L S → Option L → S → Reads L → Type 0
ReadSince {L = L} calls its_caller stream now =
    (first : L) × (its_caller ≡ Some first) × (readings : List Reading) × AreRead calls stream first readings now

-- So all writes were made.
abbrev pub WrittenSince : {S L : Type 0} → CallerOf L S → Option L → S → L × ℕ → Type 0
WrittenSince {L = L} calls its_caller stream now =
    (first : L) × (its_caller ≡ Some first) × (writings : List Writing) × AreWritten calls stream first writings now

-- The shorter of two times.
abbrev pub shorter : ℕ → ℕ → ℕ
shorter a b = a - (a - b)

-- From a connection and what was left of its time to these behind it, a reading was made in a second, or in what was
-- left where that was less; what it took of this is taken from what was left.
abbrev pub ReadsRest : {L : Type 0} → (L → ℕ → Result (Unit {0}) Error → L → Type 0)
    → (L → Result Instant Error → L → Type 0) → (L → Result ℕ Error → List ℕ → L → Type 0)
    → L × ℕ → Reading → L × ℕ → Type 0
ReadsRest limited clock_read was_read old reading new =
    let limit = shorter old.1 SILENCE in
    (rest : ℕ)
    × CallInTime limited clock_read (λ l got l'. was_read l got reading.1 l') old.0 limit reading.0 rest new.0
    × (new.1 ≡ old.1 - (limit - rest))

-- how many bytes it brought
abbrev pub brought : Reading → ℕ
brought (Ok count, room) = count
brought (Err why, room) = 0

abbrev pub all_brought : List Reading → ℕ
all_brought [] = 0
all_brought (reading ∷ readings) = brought reading + all_brought readings

-- Readings one after the other, of which those before the last one brought fewer than `REST_BYTES`.
abbrev pub ReadsOn : {L : Type 0} → (L × ℕ → Reading → L × ℕ → Type 0) → List Reading → L × ℕ → L × ℕ → Type 0
ReadsOn reads readings old new = (before last : List Reading) × (readings ≡ before ++ last)
    × Passes reads old readings new × (length last ≤ 1) × (all_brought before < REST_BYTES)

-- What was read behind an answer: nothing, where the writing side wasn't shut.
abbrev pub LingersOn : {L : Type 0} → (L × ℕ → Reading → L × ℕ → Type 0) → Result (Unit {0}) Error → L × ℕ → L × ℕ
    → Type 0
LingersOn reads (Ok shut) old new = (readings : List Reading) × ReadsOn reads readings old new
LingersOn reads (Err why) old new = new ≡ old
