-- A note of a lock that is the next one of its room.
use Rattle.std.specs.Prelude.{ℕ, ◌≡◌, Bool, true, Some, None, ◌+◌, ◌==◌, ◌&&◌, if◌then◌else◌}
use Rattle.keycard_rules.specs.{Note.Note}
use Rattle.hotel_model.specs.{declared.rows.RoomRow.RoomRow, Rows.Rows}
use Rattle.hotel_model.specs.{Refinement.Lookups.room_at, Refinement.Lookups.note_at}

-- the note's room is there with this row, and no note of its count was taken
abbrev pub IsUntaken : Note → RoomRow → Rows → Type 0
IsUntaken note row rows = (room_at rows note.room ≡ Some row) × (note_at rows note.room note.fit note.count ≡ None)

-- after an entry by the code at a place, a room of this row is secured, where no card was inside or some were
abbrev pub secured_by : RoomRow → ℕ → Bool → Bool
secured_by row place was_empty = if was_empty && (place + 1 == row.codes) then true else row.secured
