-- What comes of a request: its answer, and the history of the books after it.
use Rattle.std.specs.Prelude.{◌≡◌, ◌≤◌, ◌⊎◌, ℕ, Bool, true, false, List, [], ◌∷◌, ◌++◌, length, take, Option, Some}
use Rattle.std.specs.Prelude.{None, IfSome, Result, Ok, Err, codes}
use Rattle.std.specs.{Io.KnownBytes.Appends, Option.unwrap_or}
use Rattle.rand_core.specs.Stream.{Stream}
use Rattle.keycard_rules.specs.{declared.issued.LookFault.LookFault, declared.kept.Kept.Ghosts as KeptOf}
use Rattle.hotel_books.specs.declared.books.Books.{Ghosts as BooksOf}
use Rattle.keycard_rules.specs.Calls.{NoCallFailed, Told}
use Rattle.hotel_model.specs.{declared.reply.Reply.Reply, declared.reply.Refusal.Refusal, History.History}
use Rattle.hotel_books.specs.Books.Failures.{failure_in, refusal_of}
use Rattle.hotel_core.specs.Books.Happens.{HappensBy}
use Rattle.hotel_model.specs.declared.reply.Reply.TheVariants as reply
use Rattle.hotel_model.specs.declared.reply.Refusal.TheVariants as refusal
use Rattle.hotel_model.specs.Run.{Steps, Runs}
use Rattle.hotel_streams.specs.{Bytes.AppendsPrefix, declared.calls.WriteFailed.WriteFailed}
use Rattle.hotel_streams.specs.Reads.{ReadsWhile}
use Rattle.hotel_lists.specs.{Faults.told_refusal, RowLines.ListFailed, declared.fault.ListFault.ListFault}
use Rattle.hotel_lists.specs.declared.fault.ListFault.TheVariants as fault
use Rattle.hotel_lists.specs.Listings.{Listing, in_full}
use Rattle.hotel_asks.specs.declared.asked.Ask.{Ask}
use Rattle.hotel_asks.specs.Listings.{listing_over}
use Rattle.hotel_asks.specs.declared.asked.Ask.TheVariants as ask
use Rattle.hotel_lock.specs.AuditFile.{audit_lines}
use Rattle.hotel_audit.specs.Import.{AreAnswered, EndsAfter}
use Rattle.hotel_audit.specs.{Import.commands_of}
use Rattle.hotel_audit.specs.{Import.replies_in, Import.has_taken, Import.told_by_import}
use Rattle.hotel_audit.specs.{declared.answer.LineAnswer.LineAnswer, declared.imports.ImportFault.ImportFault}
use Rattle.hotel_lock.specs.declared.line.Line.{Line}
use Rattle.hotel_audit.specs.declared.imports.ImportFault.TheVariants as import
use Rattle.hotel_http.specs.{declared.rejection.Rejection.Rejection, declared.serve.Cut.Cut}
use Rattle.hotel_http.specs.{declared.serve.Served.Served, declared.serve.ServeFault.ServeFault}
use Rattle.hotel_http.specs.{declared.serve.Exchange.Exchange}
use Rattle.hotel_http.specs.declared.serve.ServeFault.TheVariants.{Closed, Read, Memory, Write}
use Rattle.hotel_http.specs.{declared.requests.RequestFault.RequestFault, declared.status.Status.Status}
use Rattle.hotel_http.specs.{declared.status.Status.TheVariants.Success, declared.tasks.Task.Task}
use Rattle.hotel_http.specs.declared.requests.RequestFault.TheVariants as unread
use Rattle.hotel_http.specs.declared.tasks.Task.TheVariants as task
use Rattle.hotel_http.specs.Answer.{rejection_answer, rejection_status, reply_answer, reply_status, list_answer}
use Rattle.hotel_http.specs.{AuditAnswer.lines_answer, AuditAnswer.fault_answer, AuditAnswer.import_status}
use Rattle.hotel_http.specs.{Body.interim_text, Body.interim_where, Head.WantsHead}
use Rattle.hotel_http.specs.{Request.Wanted, Request.Requests, Request.Awaits, Request.IsUnread}
use Rattle.hotel_http.specs.declared.origins.Origins.{Origins}
use Rattle.hotel_http.specs.{Status.number_of}

-- An answer: its bytes, its status, and whether the books took something of the request.
pub record FullAnswer : Type 0 where
  pub text : List ℕ
  pub status : ℕ
  pub acted : Bool

-- an answer of this status
abbrev pub full_answer : List ℕ → Status → Bool → FullAnswer
full_answer text status acted = record { text = text; status = number_of status; acted = acted }

abbrev pub rejected : Rejection → FullAnswer
rejected why = full_answer (rejection_answer why) (rejection_status why) false

-- a command with this reply was accepted
abbrev pub is_accepted : Reply → Bool
is_accepted (reply.Refused why) = false
is_accepted _ = true

-- the reply to what was asked
abbrev pub replied : Reply → FullAnswer
replied given = full_answer (reply_answer given) (reply_status given) (is_accepted given)

-- A list in full, or that its room isn't there.
abbrev pub list_reply : Option Listing → FullAnswer
list_reply None = replied (reply.Refused refusal.NoRoom)
list_reply (Some listing) = full_answer (list_answer (in_full [] (Some listing))) Success false

-- a line was taken before an import ended without answers
abbrev pub taken_before_fault : ImportFault → Bool
taken_before_fault (import.File why) = false
taken_before_fault (import.Memory answered taken) = taken
taken_before_fault (import.Store answered taken) = taken

-- an import that ended so
abbrev pub imported : Result (List LineAnswer) ImportFault → FullAnswer
imported (Ok answers) = full_answer (lines_answer answers) Success (has_taken answers)
imported (Err why) = full_answer (fault_answer why) (import_status why) (taken_before_fault why)

-- The answer to a list, by what its calls reported: it in full or that its room isn't there; or the failure.
abbrev pub ListComes : Option Listing → FullAnswer → Told → Type 0
ListComes listing out told = ((out ≡ list_reply listing) × NoCallFailed told)
    ⊎ ((why : LookFault) × (out ≡ replied (reply.Refused (refusal_of why))) × ListFailed why told)

-- What comes of a command, which is a step, or of a list, which changes nothing.
abbrev pub AskComes : Ask → History → Stream → FullAnswer → Told → History → Stream → Type 0
AskComes (ask.Command command) h s out told h' s' =
    (given : Reply) × Steps h s command given h' s' × (out ≡ replied given) × (told ≡ failure_in given ∷ [])
AskComes (ask.List its_list) h s out told h' s' =
    ListComes (listing_over h its_list) out told × (h' ≡ h) × (s' ≡ s)

-- What comes of an audit file: the run of the notes of its answered lines.
abbrev pub FileComes : List ℕ → History → Stream → FullAnswer → Told → History → Stream → Type 0
FileComes file h s out told h' s' =
    (end : Result (List LineAnswer) ImportFault) × (lines : List Line) × (answers : List LineAnswer)
    × AreAnswered lines answers
    × EndsAfter (audit_lines file) end lines answers × Runs h s (commands_of lines) (replies_in answers) h' s
    × (out ≡ imported end) × (told ≡ told_by_import lines end) × (s' ≡ s)

-- What comes of a task with its body.
abbrev pub TaskComes : Task → List ℕ → History → Stream → FullAnswer → Told → History → Stream → Type 0
TaskComes (task.Asks given) body = AskComes given
TaskComes task.Audit body = FileComes body

-- What comes of what a request asks for: a rejection changes nothing.
abbrev pub Comes : Wanted → History → Stream → FullAnswer → Told → History → Stream → Type 0
Comes (Ok given) h s out told h' s' = TaskComes given.0 given.1 h s out told h' s'
Comes (Err why) h s out told h' s' = (out ≡ rejected why) × (told ≡ []) × (h' ≡ h) × (s' ≡ s)

-- How an answer ended: it was written whole, or cut short.
abbrev pub AnswerEnd : Type 0
AnswerEnd = Result Served Cut

-- The answer was written behind this text, whole; or a prefix of it was.
abbrev pub EndsAs : FullAnswer → List ℕ → Option (List ℕ) → Option (List ℕ) → AnswerEnd → Type 0
EndsAs out before old new (Ok served) =
    (served.status ≡ out.status) × (served.acted ≡ out.acted) × Appends old new (before ++ out.text)
EndsAs out before old new (Err cut) = (cut.acted ≡ out.acted)
    × ((n : ℕ) × (n ≤ length out.text) × Appends old new (before ++ take n out.text))

-- This came of calls that reported this, and its answer was written so behind this text.
abbrev pub Answered : (History → Stream → FullAnswer → Told → History → Stream → Type 0) → Stream → Stream → List ℕ
    → Option (List ℕ) → Option (List ℕ) → AnswerEnd → Told → History → History → Type 0
Answered came s s' before old new end told h h' =
    (out : FullAnswer) × came h s out told h' s' × EndsAs out before old new end

-- How an answer ends that was written or not.
abbrev pub ended : Result (Unit {0}) WriteFailed → Status → Bool → Result Served Cut
ended (Ok done) status acted = Ok (record { status = number_of status; acted = acted })
ended (Err failed) status acted = Err (record { acted = acted })

-- A list's text as it was made in memory, or why it wasn't.
abbrev pub IsListText : Option Listing → Result (List ℕ) ListFault → Type 0
IsListText None (Ok text) = ⊥
IsListText (Some listing) (Ok text) = text ≡ in_full [] (Some listing)
IsListText listing (Err fault.NoRoom) = listing ≡ None
IsListText listing (Err why) = Unit {0}

-- the refusal that a list's fault is answered by: a writer in memory fails for want of it
abbrev pub list_refusal : ListFault → Refusal
list_refusal why = unwrap_or (told_refusal why) refusal.Memory

-- how a list ended whose text was made in memory
abbrev pub end_of : {A : Type 0} → Result A ListFault → Result (Unit {0}) ListFault
end_of (Ok text) = Ok tt
end_of (Err why) = Err why

-- the text, where there is one
abbrev pub text_in : {A : Type 0} → (A → List ℕ) → Result A ListFault → Result (List ℕ) ListFault
text_in items (Ok text) = Ok (items text)
text_in items (Err why) = Err why

-- Requests that come from these origins alone are answered as they ask.
module _ (origins : Origins) where
  -- A request was read and answered: this holds of what it asks for, whether there was an interim answer, and how its
  -- answer ended.
  abbrev pub WasAnswered : Option (List ℕ) → (Wanted → Bool → AnswerEnd → Type 0) → AnswerEnd → Type 0
  WasAnswered known went end = (wanted : Wanted) × (awaited : Bool)
      × IfSome known (λ input. Requests origins input awaited wanted) × went wanted awaited end

  -- The interim answer was cut short: the client awaits it, and nothing was read but for the head.
  abbrev pub InterimCut : Option (List ℕ) → Option (List ℕ) → Option (List ℕ) → Option (List ℕ) → Type 0
  InterimCut known left old new =
      AppendsPrefix old new interim_text × IfSome known (Awaits origins true) × ReadsWhile WantsHead known left

  -- How a request was served: it was answered; or its answer or the interim one was cut short; or no request was read.
  -- Where it wasn't begun, this is the same as before. The reader had what is known, and has what is left of it.
  abbrev pub Serves : Option (List ℕ) → Option (List ℕ) → Option (List ℕ) → Option (List ℕ) → Type 0
      → (Wanted → Bool → AnswerEnd → Type 0) → Result Served ServeFault → Type 0
  Serves known left old new same went (Ok served) = WasAnswered known went (Ok served)
  Serves known left old new same went (Err (Write acted)) =
      WasAnswered known went (Err (record { acted = acted }))
      ⊎ (same × (acted ≡ false) × InterimCut known left old new)
  Serves known left old new same went (Err Closed) = same × Appends old new [] × IfSome known (λ input. input ≡ [])
  Serves known left old new same went (Err Read) = same × IsUnread origins known left old new
  Serves known left old new same went (Err Memory) = same × IsUnread origins known left old new

  -- A request was served over these books, with codes from this source. The answer's bytes are those that the writer's
  -- contents grew by.
  abbrev pub ServesOver : {B R : Type 0} → KeptOf B → BooksOf B → (R → Stream) → Option (List ℕ) → Option (List ℕ)
      → Option (List ℕ) → Option (List ℕ) → B × R → B × R → Result Served ServeFault → Type 0
  ServesOver K own stream known left old new before after =
      Serves known left old new ((after.0 ≡ before.0) × (after.1 ≡ before.1))
      (λ wanted awaited end. HappensBy K own before.0 (Answered (Comes wanted) (stream before.1) (stream after.1)
      (interim_where awaited) old new end) after.0)

-- The request that was answered, or why it wasn't.
abbrev pub served_in : Result Exchange ServeFault → Result Served ServeFault
served_in (Ok done) = Ok done.served
served_in (Err why) = Err why

-- Where a write failed, this holds.
abbrev pub IfUnwritten : Result Served ServeFault → Type 0 → Type 0
IfUnwritten (Err (Write acted)) P = P
IfUnwritten _ P = Unit {0}

-- The fault of a request that wasn't read.
abbrev pub serve_fault_of : RequestFault → ServeFault
serve_fault_of unread.Closed = Closed
serve_fault_of unread.Read = Read
serve_fault_of unread.Memory = Memory
serve_fault_of unread.Write = Write false

-- what the fault of a request prints
abbrev pub serve_fault_text : ServeFault → List ℕ
serve_fault_text Closed = codes "closed"
serve_fault_text Read = codes "read"
serve_fault_text Memory = codes "memory"
serve_fault_text (Write acted) = codes "write"
