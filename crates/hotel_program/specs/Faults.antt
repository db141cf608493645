-- What is said of a fault, and the exit status that goes with it.
use Rattle.std.specs.Prelude.{ℕ, ◌≡◌, List, [], ◌∷◌, ◌++◌, codes, Result, Ok, Err}
use Rattle.std.specs.Fmt.{decimal}
use Rattle.hotel_asks.specs.Names.{name_text}
use Rattle.hotel_asks.specs.declared.values.ValueName.{ValueName}
use Rattle.keycard_rules.specs.declared.issued.LookFault.{LookFault}
use Rattle.keycard_rules.specs.declared.issued.LookFault.TheVariants as look
use Rattle.hotel_streams.specs.Calls.{Calls}
use Rattle.hotel_rows.specs.declared.open_fault.FileFault.TheVariants as books
use Rattle.hotel_rows.specs.declared.open_fault.OpenFault.TheVariants as desk
use Rattle.hotel_rows.specs.OpenFault.{file_fault_text}
use Rattle.hotel_program.specs.declared.faults.Fault.{Fault}
use Rattle.hotel_program.specs.declared.faults.Fault.TheVariants.{Memory, Store, Read, Write, TooLarge, NoHeader}
use Rattle.hotel_program.specs.declared.faults.Fault.TheVariants.{WrongHeader, Stopped, Books, Seed, File, Port, Closed}

-- What stopped an import.
abbrev pub cause_text : LookFault → List ℕ
cause_text look.Memory = codes ": Memory"
cause_text look.Store = codes ": Store"

-- What a fault prints.
abbrev pub fault_words : Fault → List ℕ
fault_words Memory = codes "memory"
fault_words Store = codes "store"
fault_words Read = codes "read"
fault_words Write = codes "write"
fault_words TooLarge = codes "too large"
fault_words NoHeader = codes "no header"
fault_words WrongHeader = codes "wrong header"
fault_words (Stopped answered by) = codes "stopped after " ++ decimal answered ++ cause_text by
fault_words (Books why) = file_fault_text why
fault_words Seed = codes "seed"
fault_words File = codes "file"
fault_words Port = codes "port"
fault_words Closed = codes "closed"

-- The line that is said of a fault.
abbrev pub fault_text : Fault → List ℕ
fault_text fault = fault_words fault ++ codes "\n"

-- The exit status: 4 where memory or the store failed, else 5.
abbrev pub fault_status : Fault → ℕ
fault_status Memory = 4
fault_status Store = 4
fault_status (Stopped answered by) = 4
fault_status (Books (books.Desk desk.Memory)) = 4
fault_status (Books (books.Desk desk.Store)) = 4
fault_status _ = 5

-- The line that is said of a value of the command line that its reader refuses.
abbrev pub refused_text : ValueName → List ℕ
refused_text name = codes "unread " ++ name_text name ++ codes "\n"

-- A fault of a file that is read: it can't be had, or memory runs out.
abbrev pub IsOfReading : Fault → Type 0
IsOfReading File = Unit {0}
IsOfReading Memory = Unit {0}
IsOfReading _ = ⊥

-- A fault of a seed: the same, or it can't be had or is too short.
abbrev pub IsOfSeed : Fault → Type 0
IsOfSeed Seed = Unit {0}
IsOfSeed why = IsOfReading why

-- The exit status of a call that came to a status, or to a fault.
abbrev pub end_status : Result ℕ Fault → ℕ
end_status (Ok status) = status
end_status (Err fault) = fault_status fault

-- A fault was reported, once; nothing was where there is none.
abbrev pub Reports : {F : Type 0} → (F → Fault → F → Type 0) → F → Result ℕ Fault → F → Type 0
Reports told old (Ok status) new = new ≡ old
Reports told old (Err fault) new = told old fault new

-- The line of a fault was heard, where the reads and writes of the call that came to it went so.
abbrev pub IsHeard : {F : Type 0} → (F → List ℕ → Calls → F → Type 0) → F → Result ℕ Fault → Calls → F → Type 0
IsHeard heard old (Ok status) calls new = Unit {0}
IsHeard heard old (Err fault) calls new = heard old (fault_text fault) calls new

-- Faults were reported, one after the other.
abbrev pub ReportsAll : {F : Type 0} → (F → Fault → F → Type 0) → F → List Fault → F → Type 0
ReportsAll {F} told old [] new = new ≡ old
ReportsAll {F} told old (fault ∷ faults) new = (mid : F) × told old fault mid × ReportsAll told mid faults new
