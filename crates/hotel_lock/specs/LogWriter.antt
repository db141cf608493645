-- How far the text of a log was written.
use Rattle.std.specs.Prelude.{◌≡◌, ℕ, ◌⊎◌, List, [], ◌++◌, Option, Result, Ok, Err}
use Rattle.std.specs.Io.KnownBytes.{Appends, Keeps}
use Rattle.keycard_rules.specs.Note.{Note}
use Rattle.hotel_streams.specs.Bytes.{AppendsPrefix}
use Rattle.hotel_lock.specs.NoteLine.{notes_text}
use Rattle.hotel_lock.specs.declared.log_writer.LogFault.{LogFault}
use Rattle.hotel_lock.specs.declared.log_writer.LogFault.TheVariants as fault

-- What a writer took of lines: all; a prefix of them after a write failed; nothing where memory was refused.
abbrev pub LinesEnd : List ℕ → Option (List ℕ) → Option (List ℕ) → Result (Unit {0}) LogFault → Type 0
LinesEnd lines old new (Ok done) = Appends old new lines
LinesEnd lines old new (Err fault.Write) = AppendsPrefix old new lines
LinesEnd lines old new (Err fault.Memory) = Keeps old new

-- The same of lines that may be gathered instead, where these are then gathered.
abbrev pub GathersOrEnds : List ℕ → Option (List ℕ) → Option (List ℕ) → List ℕ → Result (Unit {0}) LogFault → Type 0
GathersOrEnds lines old new left (Ok done) = (Keeps old new × (left ≡ lines)) ⊎ (Appends old new lines × (left ≡ []))
GathersOrEnds lines old new left (Err why) = LinesEnd lines old new (Err why)

-- What a writer took of the log of these notes: all of its text; a prefix of it after a write failed; the log of the
-- first notes, or of none, where memory was refused.
abbrev pub LogEnds : List Note → Option (List ℕ) → Option (List ℕ) → Result (Unit {0}) LogFault → Type 0
LogEnds notes old new (Ok done) = Appends old new (notes_text notes)
LogEnds notes old new (Err fault.Write) = AppendsPrefix old new (notes_text notes)
LogEnds notes old new (Err fault.Memory) =
    (sent : List Note) × (rest : List Note) × (notes ≡ sent ++ rest) × Appends old new (notes_text sent)
