-- The answer to an audit file.
use Rattle.std.specs.Prelude.{ℕ, List, codes, None}
use Rattle.keycard_rules.specs.declared.issued.LookFault.TheVariants as look
use Rattle.hotel_audit.specs.{Answers.answers_text, Answers.stopped_text, declared.answer.LineAnswer.LineAnswer}
use Rattle.hotel_audit.specs.{declared.imports.ImportFault.ImportFault}
use Rattle.hotel_lock.specs.declared.audit_file.AuditFault.TheVariants as file
use Rattle.hotel_audit.specs.declared.imports.ImportFault.TheVariants as fault
use Rattle.hotel_http.specs.{declared.answer.Media.TheVariants.Plain, declared.status.Status.Status, Answer.answer_text}
use Rattle.hotel_http.specs.{Answer.memory_text}
use Rattle.hotel_http.specs.declared.status.Status.TheVariants.{Success, BadRequest, ContentTooLarge, Unavailable}

-- the answer to an audit file whose lines were all answered
abbrev pub lines_answer : List LineAnswer → List ℕ
lines_answer answers = answer_text Success Plain None (answers_text 1 answers)

-- the status of an import that has no answers
abbrev pub import_status : ImportFault → Status
import_status (fault.File file.TooLarge) = ContentTooLarge
import_status (fault.File file.NoHeader) = BadRequest
import_status (fault.File file.WrongHeader) = BadRequest
import_status (fault.File file.Memory) = Unavailable
import_status (fault.Memory answered taken) = Unavailable
import_status (fault.Store answered taken) = Unavailable

-- its text
abbrev pub fault_body : ImportFault → List ℕ
fault_body (fault.File file.TooLarge) = codes "too large\n"
fault_body (fault.File file.NoHeader) = codes "no header\n"
fault_body (fault.File file.WrongHeader) = codes "wrong header\n"
fault_body (fault.File file.Memory) = memory_text
fault_body (fault.Memory answered taken) = stopped_text answered look.Memory
fault_body (fault.Store answered taken) = stopped_text answered look.Store

-- the answer to an audit file whose import has no answers
abbrev pub fault_answer : ImportFault → List ℕ
fault_answer why = answer_text (import_status why) Plain None (fault_body why)
