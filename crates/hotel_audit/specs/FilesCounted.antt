-- What a list of files does: the notes of each fit of a room have the counts 1, 2 and so on, however files were cut.
use Rattle.std.specs.Prelude.{ℕ, ◌≡◌, ◌≤◌, ◌-◌, List, [], ◌∷◌, ◌++◌, length, map, Ok, Option, Some, None, ◌==◌}
use Rattle.std.specs.List.{range_with_len, slice_get}
use Rattle.rand_core.specs.Stream.{Stream}
use Rattle.keycard_rules.specs.{Note.Note, declared.note.Act.Act}
use Rattle.keycard_rules.specs.declared.note.Act.TheVariants as act
use Rattle.hotel_model.specs.{declared.command.Command.Command, declared.reply.Reply.Reply}
use Rattle.hotel_nights.specs.Moments.{moment_of}
use Rattle.hotel_model.specs.declared.command.Command.TheVariants as command
use Rattle.hotel_model.specs.declared.reply.Reply.TheVariants as reply
use Rattle.hotel_model.specs.{Event.Event, Event.Entered, Event.Left, Event.Recoded, History.History, History.◌▷◌}
use Rattle.hotel_model.specs.{Refinement.Lookups.note_at}
use Rattle.hotel_model.specs.{Notes.notes, Notes.notes_of, RowsOf.rows_of, Run.Reached, Run.Runs, Words.when}
use Rattle.hotel_audit.specs.{declared.answer.LineAnswer.LineAnswer, declared.answer.LineAnswer.TheVariants.Taken}
use Rattle.hotel_lock.specs.{declared.line.Line.Line, AuditFile.audit_lines}
use Rattle.hotel_lock.specs.declared.line.Line.TheVariants as line
use Rattle.hotel_audit.specs.SentAgain.{LinesLead}

-- what happened by a note with this act
abbrev pub event_by : Note → Act → Event
event_by note (act.Entered number link) = Entered note.room note.fit note.count number link (moment_of note)
event_by note (act.Left number link) = Left note.room note.fit note.count number link (moment_of note)
event_by note (act.Recoded from to) = Recoded note.room note.fit note.count from to (moment_of note)

-- the event of a note that is taken
abbrev pub event_of : Note → Event
event_of note = event_by note note.act

-- the events of the notes that were answered Taken, in order
abbrev pub events_taken : List Line → List LineAnswer → List Event
events_taken (line.Note note ∷ lines) (Taken ∷ answers) = event_of note ∷ events_taken lines answers
events_taken (l ∷ lines) (a ∷ answers) = events_taken lines answers
events_taken lines answers = []

-- the history after these events, one after the other
abbrev pub followed_by : History → List Event → History
followed_by h [] = h
followed_by h (event ∷ events) = followed_by (h ▷ event) events

-- a file, the lines that were answered, and their answers
pub record AnsweredFile : Type 0 where
  pub bytes : List ℕ
  pub lines : List Line
  pub answers : List LineAnswer

-- The lines that were answered are the file's, or a prefix of them where the import was stopped.
abbrev pub IsFilePrefix : AnsweredFile → Type 0
IsFilePrefix file = (rest : List Line) × (audit_lines file.bytes ≡ Ok (file.lines ++ rest))

-- The files, one after the other, lead from a history to that at the end.
abbrev pub FilesLead : History → List AnsweredFile → History → Type 0
FilesLead h [] h' = h' ≡ h
FilesLead h (file ∷ files) h' = IsFilePrefix file × (mid : History) × (s s' : Stream)
    × LinesLead h s file.lines file.answers mid s' × FilesLead mid files h'

-- the events of all files' notes that were answered Taken, in order
abbrev pub all_events_taken : List AnsweredFile → List Event
all_events_taken [] = []
all_events_taken (file ∷ files) = events_taken file.lines file.answers ++ all_events_taken files

-- The notes of each fit of a room have the counts 1, 2 and so on, each once.
-- The tables have the note of each count of a fit, and none above.
abbrev pub AreNumbered : History → Type 0
AreNumbered h = (r fit : ℕ)
    → (map (λ note. note.count) (notes_of h r fit) ≡ range_with_len 1 (length (notes_of h r fit)))
    × ((count : ℕ) → 1 ≤ count → note_at (rows_of h) r fit count ≡ slice_get (notes_of h r fit) (count - 1))

-- Any files, cut, overlapping or repeated, lead to the history before them and then the events of the notes that were
-- taken, and the notes are counted.
abbrev pub FilesCounted : Type 0
FilesCounted = (h h' : History) (files : List AnsweredFile) → Reached h → FilesLead h files h' → Reached h'
    × (h' ≡ followed_by h (all_events_taken files)) × AreNumbered h'

-- The notes are counted after whatever was done at the desk.
abbrev pub NotesCounted : Type 0
NotesCounted = (h : History) → Reached h → AreNumbered h

-- the note that a command took, by its reply
abbrev pub note_taken : Command → Reply → Option Note
note_taken (command.Reported note) reply.Taken = Some note
note_taken _ _ = None

-- the note before some of a room, where there is one and it is of that room
abbrev pub and_before : ℕ → Option Note → List Note → List Note
and_before r (Some note) later = when (note.room == r) (λ ns. note ∷ ns) later
and_before r None later = later

-- the notes of a room that were answered Taken, in order
abbrev pub notes_taken : ℕ → List Command → List Reply → List Note
notes_taken r (command ∷ commands) (reply ∷ replies) =
    and_before r (note_taken command reply) (notes_taken r commands replies)
notes_taken r commands replies = []

-- In any run, files and other commands in any mixture, a room's notes are those before it and then those that were
-- answered Taken, in order.
abbrev pub RunsTake : Type 0
RunsTake = (h h' : History) (s s' : Stream) (commands : List Command) (replies : List Reply) (r : ℕ)
    → Runs h s commands replies h' s' → notes h' r ≡ notes h r ++ notes_taken r commands replies
