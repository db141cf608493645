-- The text of a log: the line of each note, as CSV, behind a header.
use Rattle.std.specs.Prelude.{ℕ, List, [], ◌∷◌, ◌++◌, codes, map}
use Rattle.std.specs.Fmt.{decimal}
use Rattle.std.specs.List.{concat}
use Rattle.keycard_rules.specs.{Note.Note, Numerals.code_text}
use Rattle.keycard_rules.specs.declared.note.Act.{Act}
use Rattle.keycard_rules.specs.declared.note.Act.TheVariants.{Entered, Left, Recoded}
use Rattle.hotel_nights.specs.Moments.{moment_of, moment_text}
use Rattle.hotel_lock.specs.Gathered.{line_of}

-- the first line: the names of the fields
abbrev pub audit_header : List ℕ
audit_header = codes "room,fit,count,kind,card,old,new,at\n"

-- what happened, the card (none for a recoding), and the two codes
abbrev pub act_fields : Act → List (List ℕ)
act_fields (Entered card link) = codes "in" ∷ decimal card ∷ code_text link.old_code ∷ code_text link.new_code ∷ []
act_fields (Left card link) = codes "out" ∷ decimal card ∷ code_text link.old_code ∷ code_text link.new_code ∷ []
act_fields (Recoded from to) = codes "recode" ∷ [] ∷ code_text from ∷ code_text to ∷ []

-- the fields of a note
abbrev pub note_fields : Note → List (List ℕ)
note_fields note = decimal note.room ∷ decimal note.fit ∷ decimal note.count ∷ act_fields note.act
    ++ moment_text (moment_of note) ∷ []

-- the line of a note
abbrev pub note_line : Note → List ℕ
note_line note = line_of (note_fields note)

-- the log of these notes as text: its header, and a line for each
abbrev pub notes_text : List Note → List ℕ
notes_text notes = audit_header ++ concat (map note_line notes)
