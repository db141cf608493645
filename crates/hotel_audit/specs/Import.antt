-- The import of an audit file: its notes are reported in order, and its unread lines do nothing.
use Rattle.std.specs.Prelude.{ℕ, ◌≡◌, ◌⊎◌, Bool, true, false, List, [], ◌∷◌, ◌++◌, length, map, zip, Option, Some, None}
use Rattle.std.specs.Prelude.{if◌then◌else◌, Result, Ok, Err}
use Rattle.rand_core.specs.Stream.{Stream}
use Rattle.keycard_rules.specs.{declared.issued.LookFault.LookFault, declared.kept.Kept.Ghosts as KeptOf}
use Rattle.hotel_books.specs.declared.books.Books.{Ghosts as BooksOf}
use Rattle.keycard_rules.specs.{Leaves.Leaves, Calls.LeaveAll, Calls.Passes}
use Rattle.keycard_rules.specs.declared.issued.LookFault.TheVariants as look
use Rattle.hotel_model.specs.{declared.command.Command.Command, declared.reply.Reply.Reply}
use Rattle.hotel_model.specs.{declared.reply.Refusal.Refusal, NoteReplies.IsNoteReply}
use Rattle.hotel_model.specs.declared.command.Command.TheVariants as command
use Rattle.hotel_model.specs.declared.reply.Reply.TheVariants as reply
use Rattle.hotel_model.specs.declared.reply.Refusal.TheVariants as refusal
use Rattle.hotel_model.specs.Run.{Runs, is_failed}
use Rattle.hotel_core.specs.{Books.Happens.Happens, Books.Stepped.Noted}
use Rattle.hotel_books.specs.Books.Stops.{StopsThrough}
use Rattle.hotel_lock.specs.declared.audit_file.AuditFault.{AuditFault}
use Rattle.hotel_audit.specs.declared.answer.LineAnswer.{LineAnswer}
use Rattle.hotel_audit.specs.{declared.imports.ImportFault.ImportFault}
use Rattle.hotel_audit.specs.declared.answer.LineAnswer.TheVariants.{Taken, Seen, Unread, Refused}
use Rattle.hotel_lock.specs.declared.audit_file.AuditFault.TheVariants as fault
use Rattle.hotel_audit.specs.declared.imports.ImportFault.TheVariants.{File, Memory, Store}
use Rattle.hotel_lock.specs.{declared.line.Cause.Cause, declared.line.Line.Line}
use Rattle.hotel_lock.specs.declared.line.Line.TheVariants as line

-- the commands that the lines are: each note is reported
abbrev pub commands_of : List Line → List Command
commands_of [] = []
commands_of (line.Note note ∷ lines) = command.Reported note ∷ commands_of lines
commands_of (line.Unread cause ∷ lines) = commands_of lines

-- the reply to a line's note, or why the line is none
abbrev pub reply_or_cause : LineAnswer → Result Reply Cause
reply_or_cause Taken = Ok reply.Taken
reply_or_cause Seen = Ok reply.Seen
reply_or_cause (Unread cause) = Err cause
reply_or_cause (Refused refusal) = Ok (reply.Refused refusal)

-- these replies behind that of a line, if it has one
abbrev pub behind_reply : Result Reply Cause → List Reply → List Reply
behind_reply (Ok given) replies = given ∷ replies
behind_reply (Err cause) replies = replies

-- the replies among the answers: those to notes
abbrev pub replies_in : List LineAnswer → List Reply
replies_in [] = []
replies_in (answer ∷ answers) = behind_reply (reply_or_cause answer) (replies_in answers)

-- An unread line is answered by its cause, a note by a reply other than that memory or the store failed.
abbrev pub IsAnswerTo : Line → LineAnswer → Type 0
IsAnswerTo (line.Unread cause) answer = answer ≡ Unread cause
IsAnswerTo (line.Note note) (Unread cause) = ⊥
IsAnswerTo (line.Note note) (Refused refusal) = is_failed (reply.Refused refusal) ≡ false
IsAnswerTo (line.Note note) Taken = Unit {0}
IsAnswerTo (line.Note note) Seen = Unit {0}

-- Each line has its answer.
abbrev pub AreAnswered : List Line → List LineAnswer → Type 0
AreAnswered [] [] = Unit {0}
AreAnswered (line ∷ lines) (answer ∷ answers) = IsAnswerTo line answer × AreAnswered lines answers
AreAnswered [] (answer ∷ answers) = ⊥
AreAnswered (line ∷ lines) [] = ⊥

-- one of the answers is Taken
abbrev pub has_taken : List LineAnswer → Bool
has_taken [] = false
has_taken (Taken ∷ answers) = true
has_taken (Seen ∷ answers) = has_taken answers
has_taken (Unread cause ∷ answers) = has_taken answers
has_taken (Refused refusal ∷ answers) = has_taken answers

-- an import that was stopped by this behind so many answers, one of them Taken or none
abbrev pub stopped : LookFault → ℕ → Bool → ImportFault
stopped look.Memory answered taken = Memory answered taken
stopped look.Store answered taken = Store answered taken

-- the answers, or the fault that came in place of them
abbrev pub outcome_of : {A : Type 0} → (A → List LineAnswer) → Result A ImportFault
    → Result (List LineAnswer) ImportFault
outcome_of answers (Ok given) = Ok (answers given)
outcome_of answers (Err why) = Err why

-- These lines are a prefix of the file's. Their answers are so many, and one of them is Taken or none.
abbrev pub IsPrefixOf : Result (List Line) AuditFault → List Line → List LineAnswer → ℕ → Bool → Type 0
IsPrefixOf file lines answers answered taken =
    (rest : List Line) × (file ≡ Ok (lines ++ rest)) × (length answers ≡ answered) × (has_taken answers ≡ taken)

-- An import of a file ended so after these lines with these answers: with all of its lines; with none, where it is no
-- file or there was no memory to read it; or it was stopped after some.
abbrev pub EndsAfter : Result (List Line) AuditFault → Result (List LineAnswer) ImportFault → List Line
    → List LineAnswer → Type 0
EndsAfter file (Ok given) lines answers = (file ≡ Ok lines) × (answers ≡ given)
EndsAfter file (Err (File why)) lines answers =
    (lines ≡ []) × (answers ≡ []) × ((why ≡ fault.Memory) ⊎ (file ≡ Err why))
EndsAfter file (Err (Memory answered taken)) lines answers = IsPrefixOf file lines answers answered taken
EndsAfter file (Err (Store answered taken)) lines answers = IsPrefixOf file lines answers answered taken

-- which of the two failed, by the refusal that says so
abbrev pub failed_by : Refusal → LookFault
failed_by refusal.Memory = look.Memory
failed_by _ = look.Store

-- the answer of a note that was given a reply, or what failed
abbrev pub answer_of : Reply → Result LineAnswer LookFault
answer_of reply.Taken = Ok Taken
answer_of reply.Seen = Ok Seen
answer_of (reply.Refused refusal) =
    if is_failed (reply.Refused refusal) then Err (failed_by refusal) else Ok (Refused refusal)
answer_of _ = Err look.Store

-- A line was carried out, and this came of it: by the reply to its note, which was reported; an unread line asked
-- nothing of the books.
abbrev pub ImportsLine : {B : Type 0} → KeptOf B → BooksOf B → B → Line → Result LineAnswer LookFault → B → Type 0
ImportsLine K own old (line.Unread cause) came new = (came ≡ Ok (Unread cause)) × (new ≡ old)
ImportsLine K own old (line.Note note) came new = (given : Reply) × (came ≡ answer_of given)
    × (K.is_honest new → IsNoteReply given) × Noted K own note old new given

-- A line was carried out with this answer.
abbrev pub LineImported : {B : Type 0} → KeptOf B → BooksOf B → B → Line × LineAnswer → B → Type 0
LineImported K own old asked new = ImportsLine K own old asked.0 (Ok asked.1) new

-- Behind these lines of the file there is one more, which failed for this cause.
abbrev pub NextFails : {B : Type 0} → KeptOf B → BooksOf B → Result (List Line) AuditFault → List Line
    → B → LookFault → B → Type 0
NextFails K own file lines old why new =
    (next : Line) × (rest : List Line) × (file ≡ Ok (lines ++ next ∷ rest)) × ImportsLine K own old next (Err why) new

-- What became of books that were so behind these lines of the file, where the import ended so: it left them, or the
-- next line failed.
abbrev pub ImportLeaves : {B : Type 0} → KeptOf B → BooksOf B → Result (List Line) AuditFault → List Line
    → B → Result (List LineAnswer) ImportFault → B → Type 0
ImportLeaves K own file lines old (Ok given) new = new ≡ old
ImportLeaves K own file lines old (Err (File why)) new = new ≡ old
ImportLeaves K own file lines old (Err (Memory answered taken)) new = NextFails K own file lines old look.Memory new
ImportLeaves K own file lines old (Err (Store answered taken)) new = NextFails K own file lines old look.Store new

-- An import of a file into books from old to new ended so: some of its lines have these answers, by which the books
-- went, from line to line.
pub record Imports {B : Type 0} (K : KeptOf B) (own : BooksOf B) (file : Result (List Line) AuditFault) (old new : B)
    (outcome : Result (List LineAnswer) ImportFault) : Type 0 where
  pub lines : List Line
  pub answers : List LineAnswer
  pub each : AreAnswered lines answers
  pub ends : EndsAfter file outcome lines answers
  pub behind : B
  pub through : Passes (LineImported K own) old (zip lines answers) behind
  pub leaves : ImportLeaves K own file lines behind outcome new

-- the failure that stopped an import. That there was no memory to read the file or for its answers is none of the
-- books', and isn't counted.
abbrev pub failures_of : Result (List LineAnswer) ImportFault → List (Option LookFault)
failures_of (Err (Memory answered taken)) = Some look.Memory ∷ []
failures_of (Err (Store answered taken)) = Some look.Store ∷ []
failures_of _ = []

-- What the calls of an import reported that ended so behind these lines: each note was answered, and where it was
-- stopped the next one failed.
abbrev pub told_by_import : List Line → Result (List LineAnswer) ImportFault → List (Option LookFault)
told_by_import lines outcome = map (λ command. None) (commands_of lines) ++ failures_of outcome

-- Its notes ran, with their replies, and took no word of a source; and the books are left as its calls leave them, also
-- to a stop.
pub record ImportLeads {B : Type 0} (K : KeptOf B) (own : BooksOf B) (old new : B) (lines : List Line)
    (answers : List LineAnswer) (outcome : Result (List LineAnswer) ImportFault) : Type 0 where
  pub happened : (source : Stream)
      → Happens K own.rows old (λ h h'. Runs h source (commands_of lines) (replies_in answers) h' source) new
  pub calls : Passes (Leaves K) old (told_by_import lines outcome) new
  pub leaves : LeaveAll K old (told_by_import lines outcome) new
  pub stops : StopsThrough K own old new

-- an import leads so
abbrev pub ImportsLead : {B : Type 0} → KeptOf B → BooksOf B → Type 0
ImportsLead {B = B} K own = (old new : B) (file : Result (List Line) AuditFault)
    (outcome : Result (List LineAnswer) ImportFault) → (i : Imports K own file old new outcome)
    → ImportLeads K own old new i.lines i.answers outcome
