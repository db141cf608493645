-- What the program does without words: a script over a new desk.
use Rattle.std.specs.Prelude.{◌≡◌, ◌≢◌, ◌≤◌, ◌<◌, ℕ, length, take, map, replicate, List, [], Option, IfSome}
use Rattle.std.specs.Prelude.{Result, Ok, Err, ⊤, Vec, String, string_bytes}
use Rattle.std.specs.Global.{Global}
use Rattle.std.specs.IoError.{error_kind}
use Rattle.std.specs.declared.io.Error.{Error}
use Rattle.std.specs.declared.io.ErrorKind.TheVariants.{OutOfMemory}
use Rattle.rand_core.specs.Stream.{Stream}
use Rattle.rand_core.specs.Steps.{steps_u32, stream_of}
use Rattle.rand_chacha.specs.ChaCha.{ChaCha, of_seed, next_word}
use Rattle.keycard_rules.specs.Calls.{Told}
use Rattle.keycard_rules.specs.Rise.{times}
use Rattle.keycard_rules.specs.declared.issued.LookFault.TheVariants as look
use Rattle.hotel_model.specs.Rows.{no_rows}
use Rattle.hotel_model.specs.History.{History, start}
use Rattle.hotel_model.specs.Headline.{Assured}
use Rattle.hotel_program.specs.declared.faults.Fault.{Fault}
use Rattle.hotel_program.specs.declared.faults.Fault.TheVariants as fault
use Rattle.hotel_program.specs.declared.files.TheConstants.{SEED_BYTES}
use Rattle.hotel_program.specs.declared.script.TheConstants.{SCRIPT_LIMIT}
use Rattle.hotel_program.specs.declared.script.ScriptEnd.{ScriptEnd}
use Rattle.hotel_program.specs.declared.script.ScriptFault.{ScriptFault}
use Rattle.hotel_program.specs.declared.script.ScriptFault.TheVariants.{Read, TooLarge, Memory, Write}
use Rattle.hotel_program.specs.Script.Lines.{answered_lines}
use Rattle.hotel_program.specs.Script.WholeScript.{ScriptAnswered, ScriptCut, IsInput}

-- There are no words after the program's name.
abbrev pub HasNoWords : Result (Vec (String Global) Global) Error → Type 0
HasNoWords (Ok words) = words.items ≡ []
HasNoWords (Err why) = ⊥

-- There are words, and of their texts this holds.
abbrev pub IfWords : Result (Vec (String Global) Global) Error → (List (List ℕ) → Type 0) → Type 0
IfWords (Ok words) P = words.items ≢ [] → P (map string_bytes words.items)
IfWords (Err why) P = ⊤

-- There was no memory to read the words.
abbrev pub LacksMemory : Result (Vec (String Global) Global) Error → Type 0
LacksMemory (Ok words) = ⊥
LacksMemory (Err why) = error_kind why ≡ OutOfMemory

-- A word isn't text.
abbrev pub IsNoText : Result (Vec (String Global) Global) Error → Type 0
IsNoText (Ok words) = ⊥
IsNoText (Err why) = error_kind why ≢ OutOfMemory

-- The words that a source draws.
abbrev pub drawn : ChaCha → Stream
drawn = stream_of (steps_u32 (next_word 10))

-- The words of the source whose seed is all zero bytes.
abbrev pub zero_seeded : Stream
zero_seeded = drawn (of_seed (replicate SEED_BYTES 0))

-- This went over a new desk in memory: from no rows and a source of zeros to a history of which what is assured holds,
-- by calls none of which reported that the store failed.
abbrev pub OverNewDesk : (Stream → Stream → Type 0 → Told → History → History → Type 0)
    → Type 0
OverNewDesk went = (h : History) × (s : Stream) × (told : Told) × went zero_seeded s ⊤ told (start no_rows) h
    × (times look.Store told ≡ 0) × Assured h

-- A script over a new desk ended so: all its lines were answered; after a failed write, its lines were cut short at
-- one; after another fault the writer took nothing.
abbrev pub EndsOverNewDesk : {W : Type 0} → (W → Option (List ℕ)) → Option (List ℕ) → W → W
    → Result ScriptEnd ScriptFault → Type 0
EndsOverNewDesk contents known old new (Ok end) =
    (script : List ℕ) × IsInput known script × (end.lines ≡ length (answered_lines script))
    × OverNewDesk (λ s s'. ScriptAnswered (answered_lines script) s s' (contents old) (contents new))
EndsOverNewDesk contents known old new (Err (Write done)) =
    (script : List ℕ) × IsInput known script × (1 ≤ done) × (done ≤ length (answered_lines script))
    × OverNewDesk (λ s s'. ScriptCut (take done (answered_lines script)) s s' (contents old) (contents new))
EndsOverNewDesk contents known old new (Err TooLarge) =
    IfSome known (λ input. SCRIPT_LIMIT < length input) × (new ≡ old)
EndsOverNewDesk contents known old new (Err _) = new ≡ old

-- The exit status of a script that ended so, or the fault that is reported.
abbrev pub script_end : Result ScriptEnd ScriptFault → Result ℕ Fault
script_end (Ok end) = Ok 0
script_end (Err Read) = Err fault.Read
script_end (Err TooLarge) = Err fault.TooLarge
script_end (Err Memory) = Err fault.Memory
script_end (Err (Write done)) = Err fault.Write
