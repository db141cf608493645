-- The list of a room's notes, sent as an audit file.
use Rattle.std.specs.Prelude.{ℕ, ◌≡◌, ◌≤◌, true, List, [], ◌++◌, length, map, Ok}
use Rattle.rand_core.specs.Stream.{Stream}
use Rattle.hotel_model.specs.{declared.command.Command.Command, declared.reply.Reply.Reply, Cases.is_room}
use Rattle.hotel_model.specs.{History.History, Notes.notes, RowsOf.rows_of, Run.Reached, Run.Runs}
use Rattle.hotel_lock.specs.AuditFile.{audit_lines}
use Rattle.hotel_lock.specs.declared.audit_file.TheConstants.{AUDIT_BYTES}
use Rattle.hotel_lock.specs.declared.line.Line.{Line}
use Rattle.hotel_lock.specs.declared.line.Line.TheVariants as line
use Rattle.hotel_lists.specs.Listings.{audit_listing, in_full}
use Rattle.hotel_audit.specs.{declared.answer.LineAnswer.LineAnswer, declared.answer.LineAnswer.TheVariants.Seen}
use Rattle.hotel_audit.specs.SentAgain.{LinesLead}

-- the list of a room's notes in a history, as text; none where the room isn't there
abbrev pub list_text : History → ℕ → List ℕ
list_text h room = in_full [] (audit_listing (rows_of h) room)

-- The list of a room's notes, where it is no longer than an audit file may be, is read as the file of these notes.
abbrev pub ListReadsBack : Type 0
ListReadsBack = (h : History) (room : ℕ) → Reached h → is_room h room ≡ true
    → length (list_text h room) ≤ AUDIT_BYTES → audit_lines (list_text h room) ≡ Ok (map line.Note (notes h room))

-- The list of a room's notes, then whichever commands, or none, and then lines of the list from its first on: each is
-- seen, and nothing happens.
abbrev pub ListIsSeen : Type 0
ListIsSeen = (h later end : History) (s source t s' : Stream) (room : ℕ) (commands : List Command)
    (replies : List Reply) (lines rest : List Line) (again : List LineAnswer) → Reached h
    → audit_lines (list_text h room) ≡ Ok (lines ++ rest) → Runs h s commands replies later source
    → LinesLead later t lines again end s'
    → (again ≡ map (λ line. Seen) lines) × (end ≡ later)
