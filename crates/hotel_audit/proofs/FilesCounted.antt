-- Files lead to the events of the notes that were taken, and the notes of each fit are counted.
use Rattle.std.proofs.Common.{◌≡◌, ◌∙◌, false, List, [], ◌∷◌, ◌++◌, inl, inr, refl, ap, sym, subst, All}
use Rattle.hotel_books.proofs.Names.{Stream, words, Note, Event, History, ◌▷◌, grown, IsReply, Reached, Runs, StepsIf}
use Rattle.std.proofs.lemmas.List.Elements.{All-cons, All-nil}
use Rattle.hotel_model.specs.declared.command.Command.TheVariants as command
use Rattle.hotel_model.specs.declared.reply.Reply.{Reply}
use Rattle.hotel_model.specs.declared.reply.Reply.TheVariants as reply
use Rattle.hotel_model.proofs.Lifted.Runs.{runs_reach}
use Rattle.hotel_lock.specs.declared.line.Line.{Line}
use Rattle.hotel_audit.specs.{declared.answer.LineAnswer.LineAnswer, Import.AreAnswered}
use Rattle.hotel_audit.specs.{Import.commands_of, Import.replies_in}
use Rattle.hotel_audit.specs.declared.answer.LineAnswer.TheVariants.{Taken, Seen, Unread, Refused}
use Rattle.hotel_lock.specs.declared.line.Line.TheVariants as line
use Rattle.hotel_audit.specs.FilesCounted.{AnsweredFile, FilesCounted, FilesLead, all_events_taken, event_of}
use Rattle.hotel_audit.specs.FilesCounted.{events_taken, followed_by}
use Rattle.hotel_audit.proofs.{CountsOfFits.notes_counted, NoteOutcomes.note_outcome, NotesInRange.commands_in_range}
use Rattle.hotel_audit.proofs.{NotesInRange.file_in_range, NotesInRange.prefix_in_range}

-- a note that was answered Taken happened
taken_step : (h : History) (s : Stream) (note : Note) (h' : History) (s' : Stream)
    → StepsIf false h s (command.Reported note) reply.Taken h' s' → h' ≡ h ▷ event_of note
taken_step h s note h' s' d =
    elim (note_outcome h (words 64 s) note) [
      | inl t ↦ d.1 ∙ ap (grown h) t.1
      | inr n ↦ absurd (n.1 (sym d.0))
    ]

-- at a note that wasn't, nothing happened
other_step : (h : History) (s : Stream) (note : Note) (given : Reply) (h' : History) (s' : Stream)
    → (given ≡ reply.Taken → ⊥) → StepsIf false h s (command.Reported note) given h' s' → h' ≡ h
other_step h s note given h' s' not d =
    elim (note_outcome h (words 64 s) note) [
      | inl t ↦ absurd (not (d.0 ∙ t.0))
      | inr n ↦ d.1 ∙ ap (grown h) n.0
    ]

-- lines lead to the events of the notes that were taken
lead_by_events : (h h' : History) (s s' : Stream) (lines : List Line) (answers : List LineAnswer)
    → AreAnswered lines answers → Runs h s (commands_of lines) (replies_in answers) h' s'
    → h' ≡ followed_by h (events_taken lines answers)
lead_by_events h h' s s' [] [] each r = r.0
lead_by_events h h' s s' (line.Note note ∷ lines) (Taken ∷ answers) each r =
    lead_by_events r.0 h' r.1 s' lines answers each.1 r.3
    ∙ ap (λ z. followed_by z (events_taken lines answers)) (taken_step h s note r.0 r.1 r.2)
lead_by_events h h' s s' (line.Note note ∷ lines) (Seen ∷ answers) each r =
    lead_by_events r.0 h' r.1 s' lines answers each.1 r.3
    ∙ ap (λ z. followed_by z (events_taken lines answers)) (other_step h s note reply.Seen r.0 r.1 (λ e. cc e) r.2)
lead_by_events h h' s s' (line.Note note ∷ lines) (Unread cause ∷ answers) each r = absurd each.0
lead_by_events h h' s s' (line.Note note ∷ lines) (Refused why ∷ answers) each r =
    let step = subst (λ b. StepsIf b h s (command.Reported note) (reply.Refused why) r.0 r.1) each.0 r.2 in
    lead_by_events r.0 h' r.1 s' lines answers each.1 r.3 ∙ ap (λ z. followed_by z (events_taken lines answers))
    (other_step h s note (reply.Refused why) r.0 r.1 (λ e. cc e) step)
lead_by_events h h' s s' (line.Unread cause ∷ lines) (a ∷ answers) each r =
    lead_by_events h h' s s' lines answers each.1
    (subst (λ x. Runs h s (commands_of lines) (replies_in (x ∷ answers)) h' s') each.0 r)
lead_by_events h h' s s' [] (a ∷ answers) each r = absurd each
lead_by_events h h' s s' (line.Note note ∷ lines) [] each r = absurd each
lead_by_events h h' s s' (line.Unread cause ∷ lines) [] each r = absurd each

followed_by-append : (h : History) (events more : List Event)
    → followed_by h (events ++ more) ≡ followed_by (followed_by h events) more
followed_by-append h [] more = refl
followed_by-append h (event ∷ events) more = followed_by-append (h ▷ event) events more

files_lead_by_events : (h h' : History) (files : List AnsweredFile)
    → FilesLead h files h' → h' ≡ followed_by h (all_events_taken files)
files_lead_by_events h h' [] l = l
files_lead_by_events h h' (file ∷ files) l =
    let first : l.1 ≡ followed_by h (events_taken file.lines file.answers) =
    lead_by_events h l.1 l.2 l.3 file.lines file.answers l.4.0 l.4.1 in
    files_lead_by_events l.1 h' files l.5 ∙ ap (λ z. followed_by z (all_events_taken files)) first
    ∙ sym (followed_by-append h (events_taken file.lines file.answers) (all_events_taken files))

replies_in_range : (answers : List LineAnswer) → All IsReply (replies_in answers)
replies_in_range [] = All-nil IsReply
replies_in_range (Taken ∷ answers) = All-cons IsReply reply.Taken (replies_in answers) tt (replies_in_range answers)
replies_in_range (Seen ∷ answers) = All-cons IsReply reply.Seen (replies_in answers) tt (replies_in_range answers)
replies_in_range (Unread cause ∷ answers) = replies_in_range answers
replies_in_range (Refused why ∷ answers) =
    All-cons IsReply (reply.Refused why) (replies_in answers) tt (replies_in_range answers)

-- files lead to a history that can be reached
files_reach : (h h' : History) (files : List AnsweredFile) → Reached h → FilesLead h files h' → Reached h'
files_reach h h' [] ok l = subst Reached (sym l) ok
files_reach h h' (file ∷ files) ok l =
    let in_range = commands_in_range file.lines
    (prefix_in_range file.lines l.0.0 (file_in_range file.bytes (file.lines ++ l.0.0) l.0.1)) in
    files_reach l.1 h' files (runs_reach h l.1 l.2 l.3 (commands_of file.lines) (replies_in file.answers) ok in_range
    (replies_in_range file.answers) l.4.1) l.5

pub files_counted : FilesCounted
files_counted h h' files ok l =
    let reached = files_reach h h' files ok l in
    (reached, files_lead_by_events h h' files l, notes_counted h' reached)
