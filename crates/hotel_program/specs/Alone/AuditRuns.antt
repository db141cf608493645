-- What an audit file that is imported alone comes to.
use Rattle.std.specs.Prelude.{◌≡◌, ℕ, Bool, true, false, List, [], ◌∷◌, Option, Result, Ok, Err}
use Rattle.std.specs.Io.KnownBytes.{Appends}
use Rattle.keycard_rules.specs.declared.issued.LookFault.TheVariants as look
use Rattle.hotel_streams.specs.Bytes.{AppendsPrefix}
use Rattle.hotel_audit.specs.Answers.{answers_text}
use Rattle.hotel_audit.specs.declared.answer.LineAnswer.{LineAnswer}
use Rattle.hotel_audit.specs.declared.answer.LineAnswer.TheVariants.{Taken, Seen, Unread, Refused}
use Rattle.hotel_lock.specs.declared.audit_file.AuditFault.{AuditFault}
use Rattle.hotel_lock.specs.declared.audit_file.AuditFault.TheVariants as file
use Rattle.hotel_audit.specs.declared.imports.ImportFault.{ImportFault}
use Rattle.hotel_audit.specs.declared.imports.ImportFault.TheVariants.{File, Memory, Store}
use Rattle.hotel_program.specs.declared.faults.Fault.{Fault}
use Rattle.hotel_program.specs.declared.faults.Fault.TheVariants as fault

-- The exit status that goes with answers: 0 where each is Taken or Seen, else 3.
abbrev pub answers_status : List LineAnswer → ℕ
answers_status [] = 0
answers_status (Taken ∷ answers) = answers_status answers
answers_status (Seen ∷ answers) = answers_status answers
answers_status (Unread cause ∷ answers) = 3
answers_status (Refused refusal ∷ answers) = 3

-- The fault of bytes that give no lines.
abbrev pub audit_file_fault : AuditFault → Fault
audit_file_fault file.TooLarge = fault.TooLarge
audit_file_fault file.NoHeader = fault.NoHeader
audit_file_fault file.WrongHeader = fault.WrongHeader
audit_file_fault file.Memory = fault.Memory

-- The fault of an import that has no answers.
abbrev pub import_fault : ImportFault → Fault
import_fault (File why) = audit_file_fault why
import_fault (Memory answered taken) = fault.Stopped answered look.Memory
import_fault (Store answered taken) = fault.Stopped answered look.Store

-- The exit status of an import with these answers or this fault, or the fault that is reported: also where a write of
-- its answers failed.
abbrev pub audit_end : Result (List LineAnswer) ImportFault → Bool → Result ℕ Fault
audit_end (Ok answers) false = Ok (answers_status answers)
audit_end (Ok answers) true = Err fault.Write
audit_end (Err why) write_failed = Err (import_fault why)

-- What a writer took of an import: the texts of its answers, a line each; a prefix of them where a write failed;
-- nothing where it has no answers.
abbrev pub WritesAnswers : {W : Type 0} → (W → Option (List ℕ)) → W → W → Result (List LineAnswer) ImportFault → Bool
    → Type 0
WritesAnswers contents old new (Ok answers) false = Appends (contents old) (contents new) (answers_text 1 answers)
WritesAnswers contents old new (Ok answers) true = AppendsPrefix (contents old) (contents new) (answers_text 1 answers)
WritesAnswers contents old new (Err why) write_failed = new ≡ old
