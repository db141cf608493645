-- A script: its answered lines, one after the other.
use Rattle.std.specs.Prelude.{◌≡◌, ◌≤◌, ◌<◌, ℕ, length, take, List, [], ◌∷◌, ◌++◌, Option, IfSome, Result, Ok}
use Rattle.std.specs.Prelude.{Err, ⊤, codes}
use Rattle.std.specs.List.{concat}
use Rattle.std.specs.Io.KnownBytes.{Appends}
use Rattle.rand_core.specs.Stream.{Stream}
use Rattle.keycard_rules.specs.{declared.kept.Kept.Ghosts as KeptOf, Calls.Passes}
use Rattle.hotel_books.specs.declared.books.Books.{Ghosts as BooksOf}
use Rattle.keycard_rules.specs.Calls.{Told}
use Rattle.hotel_core.specs.Books.Happens.{HappensBy}
use Rattle.hotel_streams.specs.declared.calls.WriteFailed.{WriteFailed}
use Rattle.hotel_model.specs.History.{History}
use Rattle.hotel_program.specs.Script.Asks.{ask_in}
use Rattle.hotel_program.specs.Script.LineAnswers.{AskEnds, ScriptLineGoes, Sure}
use Rattle.hotel_program.specs.Script.Lines.{answered_lines}
use Rattle.hotel_program.specs.declared.script.TheConstants.{SCRIPT_LIMIT}
use Rattle.hotel_program.specs.declared.script.ScriptEnd.{ScriptEnd}
use Rattle.hotel_program.specs.declared.script.ScriptFault.{ScriptFault}
use Rattle.hotel_program.specs.declared.script.ScriptFault.TheVariants.{Read, TooLarge, Memory, Write}
use Rattle.hotel_streams.specs.declared.bytes.WholeFault.{WholeFault}
use Rattle.hotel_streams.specs.declared.bytes.WholeFault.TheVariants as whole

-- The lines go in their order, each with its answer; what their calls reported is theirs, in order.
unfoldable pub ScriptGoes : (List ℕ → Type 0) → History → Stream → List (List ℕ) → List (List ℕ) → Told
    → History → Stream → Type 0
ScriptGoes sure h s [] [] told h' s' = (told ≡ []) × (h' ≡ h) × (s' ≡ s)
ScriptGoes sure h s (line ∷ later) (text ∷ texts) told h' s' =
    (mid : History) × (source : Stream) × (first : Told) × (more : Told)
    × ScriptLineGoes sure h s line text first mid source × ScriptGoes sure mid source later texts more h' s'
    × (told ≡ first ++ more)
ScriptGoes sure h s [] (text ∷ texts) told h' s' = ⊥
ScriptGoes sure h s (line ∷ later) [] told h' s' = ⊥

-- Lines were answered: they went, and their answers were written whole.
abbrev pub ScriptAnswered : List (List ℕ) → Stream → Stream → Option (List ℕ) → Option (List ℕ) → Type 0
    → Told → History → History → Type 0
ScriptAnswered lines s s' old new kept told h h' =
    (texts : List (List ℕ)) × ScriptGoes (Sure kept) h s lines texts told h' s' × Appends old new (concat texts)

-- Lines were cut short at the last one: they went, and their answers were written whole, but for the last one, of which
-- a prefix was written, and which vouches for nothing.
abbrev pub ScriptCut : List (List ℕ) → Stream → Stream → Option (List ℕ) → Option (List ℕ) → Type 0
    → Told → History → History → Type 0
ScriptCut lines s s' old new kept told h h' =
    (texts : List (List ℕ)) × (last : List ℕ) × ScriptGoes (λ text. kept) h s lines (texts ++ last ∷ []) told h' s'
    × (n : ℕ) × (n ≤ length last) × Appends old new (concat texts ++ take n last)

-- A line was carried out, by books, a source of words and a writer, and its answer was written so.
abbrev pub LineEnds : {S R W : Type 0} → KeptOf S → BooksOf S → (R → Stream) → (W → Option (List ℕ))
    → Result (Unit {0}) WriteFailed → S × R × W → List ℕ → S × R × W → Type 0
LineEnds K own stream contents written old line new = HappensBy K own old.0 (AskEnds (ask_in line) (stream old.1)
    (stream new.1) (contents old.2) (contents new.2) written (K.is_clean old.0)) new.0

-- A line was answered.
abbrev pub ScriptLineHappens : {S R W : Type 0} → KeptOf S → BooksOf S → (R → Stream) → (W → Option (List ℕ))
    → S × R × W → List ℕ → S × R × W → Type 0
ScriptLineHappens K own stream contents old line new = LineEnds K own stream contents (Ok tt) old line new

-- Lines were answered, each in the state that the one before it left.
abbrev pub LinesAnswered : {S R W : Type 0} → KeptOf S → BooksOf S → (R → Stream) → (W → Option (List ℕ))
    → S × R × W → List (List ℕ) → S × R × W → Type 0
LinesAnswered K own stream contents old lines new = Passes (ScriptLineHappens K own stream contents) old lines new

-- Those before the last one were answered, each in its turn, and then of the last one's answer a prefix was written.
abbrev pub LinesCut : {S R W : Type 0} → KeptOf S → BooksOf S → (R → Stream) → (W → Option (List ℕ)) → S × R × W
    → List (List ℕ) → S × R × W → Type 0
LinesCut {S = S} {R = R} {W = W} K own stream contents old lines new = (before : List (List ℕ)) × (last : List ℕ)
    × (lines ≡ before ++ last ∷ []) × (mid : S × R × W) × LinesAnswered K own stream contents old before mid
    × (failed : WriteFailed) × LineEnds K own stream contents (Err failed) mid last new

-- So they went over the books with their answers.
pub record ScriptsHappen {S R W : Type 0} (K : KeptOf S) (own : BooksOf S) (stream : R → Stream)
    (contents : W → Option (List ℕ)) : Type 0 where
  pub answered : (old new : S × R × W) (lines : List (List ℕ)) → LinesAnswered K own stream contents old lines new
      → HappensBy K own old.0 (ScriptAnswered lines (stream old.1) (stream new.1) (contents old.2) (contents new.2)
      (K.is_clean new.0)) new.0
  pub cut : (old new : S × R × W) (lines : List (List ℕ)) → LinesCut K own stream contents old lines new
      → HappensBy K own old.0 (ScriptCut lines (stream old.1) (stream new.1) (contents old.2) (contents new.2)
      (K.is_clean new.0)) new.0

-- The script is what the reader had, where its bytes are known, and no more than a script may have.
abbrev pub IsInput : Option (List ℕ) → List ℕ → Type 0
IsInput known script = (length script ≤ SCRIPT_LIMIT) × IfSome known (λ input. script ≡ input)

-- Where a write failed, this holds of the number of lines that were carried out.
abbrev pub IfCut : Result ScriptEnd ScriptFault → (ℕ → Type 0) → Type 0
IfCut (Err (Write done)) P = P done
IfCut _ P = ⊤

-- Where the script was not read whole, and so no line was begun, this holds.
abbrev pub IfUnbegun : Result ScriptEnd ScriptFault → Type 0 → Type 0
IfUnbegun (Ok end) P = ⊤
IfUnbegun (Err (Write done)) P = ⊤
IfUnbegun (Err fault) P = P

-- A script ended so, of which these bytes are known: its lines were answered; or the answer of one was cut short, the
-- last of those that were carried out; or it wasn't read whole, and nothing was begun.
abbrev pub ScriptRan : {S R W : Type 0} → KeptOf S → BooksOf S → (R → Stream) → (W → Option (List ℕ))
    → Option (List ℕ) → S × R × W → Result ScriptEnd ScriptFault → S × R × W → Type 0
ScriptRan K own stream contents known old (Ok end) new = (script : List ℕ) × IsInput known script
    × (end.lines ≡ length (answered_lines script))
    × LinesAnswered K own stream contents old (answered_lines script) new
ScriptRan K own stream contents known old (Err (Write done)) new = (script : List ℕ) × IsInput known script
    × (1 ≤ done) × (done ≤ length (answered_lines script))
    × LinesCut K own stream contents old (take done (answered_lines script)) new
ScriptRan K own stream contents known old (Err TooLarge) new =
    (new ≡ old) × IfSome known (λ input. SCRIPT_LIMIT < length input)
ScriptRan K own stream contents known old (Err why) new = new ≡ old

-- The fault of a script that was not read whole.
abbrev pub fault_of_script : WholeFault → ScriptFault
fault_of_script whole.Read = Read
fault_of_script whole.TooLarge = TooLarge
fault_of_script whole.Memory = Memory

-- What the fault of a script prints.
abbrev pub script_fault_text : ScriptFault → List ℕ
script_fault_text Read = codes "read"
script_fault_text TooLarge = codes "too large"
script_fault_text Memory = codes "memory"
script_fault_text (Write done) = codes "write"
