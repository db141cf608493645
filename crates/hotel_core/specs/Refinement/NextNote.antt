-- The next note of a room's present lock.
use Rattle.std.specs.Prelude.{◌+◌, ◌-◌, ◌==◌, nat_le, nat_lt, if◌then◌else◌, Result, Ok, Err}
use Rattle.keycard_rules.specs.{Note.Note}
use Rattle.hotel_model.specs.{declared.rows.RoomRow.RoomRow, declared.reply.Refusal.Refusal}
use Rattle.hotel_model.specs.declared.reply.Refusal.TheVariants.{Gap, OldFit, Store}

-- why a note that wasn't taken isn't the next one of its room's present lock, if it isn't; sound books have each note
-- up to the count that was taken
abbrev pub next_checked : Note → RoomRow → Result (Unit {0}) Refusal
next_checked note row =
    if note.fit == row.fit
    then (if nat_le note.count (row.notes - row.before)
    then Err Store
    else if nat_lt (row.notes - row.before + 1) note.count
    then Err (Gap (row.notes - row.before + 1))
    else Ok tt)
    else Err OldFit
