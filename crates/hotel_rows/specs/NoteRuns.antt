-- The numbers of each room's notes.
use Rattle.std.specs.Prelude.{ℕ, ◌≡◌, ◌==◌, ◌&&◌, Bool, List, [], ◌∷◌, map, Option, Some, None}
use Rattle.hotel_model.specs.Words.{said_of, last_of}
use Rattle.hotel_model.specs.Rows.{at_number}
use Rattle.hotel_model.specs.SoundRooms.{count_up}
use Rattle.hotel_model.specs.SoundNotes.{numbers_at}
use Rattle.hotel_rows.specs.declared.damage.note_runs.NoteRun.{NoteRun}
use Rattle.hotel_rows.specs.declared.stored.PlainNote.{PlainNote}
use Rattle.hotel_rows.specs.declared.stored.PlainRoom.{PlainRoom}
use Rattle.hotel_rows.specs.Stored.{number_of, note_entry}

-- the first and the last of some numbers, and whether they count up
abbrev pub note_run_of : List ℕ → Option NoteRun
note_run_of [] = None
note_run_of (n ∷ ns) = Some (record { first = n; last = last_of (n ∷ ns); counted = count_up n (n ∷ ns) })

-- the map has what the numbers of each room's notes are
abbrev pub NoteRunsOf : List (ℕ × NoteRun) → List PlainNote → Type 0
NoteRunsOf runs plain_rows = (room : ℕ)
    → at_number runs room ≡ note_run_of (numbers_at (map note_entry plain_rows) room)

-- the numbers of the room's notes are 1 and on, as many as the room's row says
abbrev pub counted_as_due : List (ℕ × NoteRun) → PlainRoom → Bool
counted_as_due runs plain = said_of (at_number runs (number_of plain.room)) (number_of plain.notes == 0)
    (λ run. run.counted && (run.first == 1) && (run.last == number_of plain.notes))
