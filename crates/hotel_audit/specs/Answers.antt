-- The texts of the answers to an audit file's lines, of an import that was stopped, and of faults.
use Rattle.std.specs.Prelude.{ℕ, List, [], ◌∷◌, ◌++◌, ◌+◌, codes, Result, Ok, Err}
use Rattle.std.specs.Fmt.{decimal}
use Rattle.keycard_rules.specs.declared.issued.LookFault.{LookFault}
use Rattle.keycard_rules.specs.declared.issued.LookFault.TheVariants as look
use Rattle.hotel_model.specs.declared.reply.Reply.{Reply}
use Rattle.hotel_core.specs.Texts.{reply_text}
use Rattle.hotel_lock.specs.{declared.line.Cause.Cause, Faults.audit_fault_text}
use Rattle.hotel_lock.specs.declared.line.Cause.TheVariants.{FieldCount, BadRoom, BadFit, BadCount, BadKind, BadCard}
use Rattle.hotel_lock.specs.declared.line.Cause.TheVariants.{BadOld, BadNew, BadMoment}
use Rattle.hotel_audit.specs.{declared.answer.LineAnswer.LineAnswer, declared.imports.ImportFault.ImportFault}
use Rattle.hotel_audit.specs.declared.imports.ImportFault.TheVariants as import_fault
use Rattle.hotel_audit.specs.Import.{reply_or_cause}

-- the name of a cause
abbrev pub cause_name : Cause → List ℕ
cause_name FieldCount = codes "FieldCount"
cause_name BadRoom = codes "BadRoom"
cause_name BadFit = codes "BadFit"
cause_name BadCount = codes "BadCount"
cause_name BadKind = codes "BadKind"
cause_name BadCard = codes "BadCard"
cause_name BadOld = codes "BadOld"
cause_name BadNew = codes "BadNew"
cause_name BadMoment = codes "BadMoment"

-- what is said of a line: the text of the reply to its note, or why it is none
abbrev pub line_text : Result Reply Cause → List ℕ
line_text (Ok given) = reply_text given
line_text (Err cause) = codes "unread " ++ cause_name cause ++ (10 ∷ [])

-- the text of an answer: the line's number, a space and what is said of it
abbrev pub answer_text : ℕ → LineAnswer → List ℕ
answer_text number answer = decimal number ++ codes " " ++ line_text (reply_or_cause answer)

-- the texts of answers to the lines from a number on
abbrev pub answers_text : ℕ → List LineAnswer → List ℕ
answers_text number [] = []
answers_text number (answer ∷ answers) = answer_text number answer ++ answers_text (number + 1) answers

-- what stopped an import, and the end of the line
abbrev pub cause_text : LookFault → List ℕ
cause_text look.Memory = codes ": Memory\n"
cause_text look.Store = codes ": Store\n"

-- what is said of an import that was stopped behind so many lines
abbrev pub stopped_text : ℕ → LookFault → List ℕ
stopped_text answered by = codes "stopped after " ++ decimal answered ++ cause_text by

-- what the fault of an import prints
abbrev pub import_fault_text : ImportFault → List ℕ
import_fault_text (import_fault.File why) = audit_fault_text why
import_fault_text (import_fault.Memory answered taken) = codes "stopped after " ++ decimal answered ++ codes ": Memory"
import_fault_text (import_fault.Store answered taken) = codes "stopped after " ++ decimal answered ++ codes ": Store"
