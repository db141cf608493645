-- What is written of notes is read as these notes.
use Rattle.std.specs.Prelude.{◌≡◌, ◌≤◌, ◌<◌, List, All, length, map, Ok}
use Rattle.keycard_rules.specs.{Note.Note, Note.IsTimed, Numbers.IsNumberUpTo}
use Rattle.keycard_rules.specs.declared.card.Link.{Link}
use Rattle.keycard_rules.specs.declared.code.TheConstants.{CODES}
use Rattle.keycard_rules.specs.declared.note.Act.{Act}
use Rattle.keycard_rules.specs.declared.note.Act.TheVariants as act
use Rattle.keycard_rules.specs.declared.numbers.TheConstants.{LAST_FIT, LAST_NUMBER, LAST_ROOM}
use Rattle.hotel_lock.specs.{AuditFile.audit_lines, NoteLine.notes_text}
use Rattle.hotel_lock.specs.declared.audit_file.TheConstants.{AUDIT_BYTES}
use Rattle.hotel_lock.specs.declared.line.Line.TheVariants as line

-- a link of two codes
abbrev pub IsLink : Link → Type 0
IsLink link = (link.old_code < CODES) × (link.new_code < CODES)

-- an act of a card, or of two codes
abbrev pub IsAct : Act → Type 0
IsAct (act.Entered card link) = IsNumberUpTo LAST_NUMBER card × IsLink link
IsAct (act.Left card link) = IsNumberUpTo LAST_NUMBER card × IsLink link
IsAct (act.Recoded from to) = (from < CODES) × (to < CODES)

-- The note's values are in their ranges: those that its type holds.
pub record IsNote (note : Note) : Type 0 where
  pub room : IsNumberUpTo LAST_ROOM note.room
  pub fit : IsNumberUpTo LAST_FIT note.fit
  pub count : IsNumberUpTo LAST_NUMBER note.count
  pub act : IsAct note.act
  pub timed : IsTimed note.day note.second

-- The log of notes, where it is no longer than an audit file may be, is read as the file of these notes.
abbrev pub NotesReadBack : Type 0
NotesReadBack = (notes : List Note) → All IsNote notes → length (notes_text notes) ≤ AUDIT_BYTES
    → audit_lines (notes_text notes) ≡ Ok (map line.Note notes)
