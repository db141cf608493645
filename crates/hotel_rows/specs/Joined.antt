-- The rows of rooms and notes, joined with the fits of their rooms: their tables have no columns for these.
use Rattle.std.specs.Prelude.{ℕ, ◌-◌, List, Option, map, filter, nat_lt}
use Rattle.keycard_rules.specs.Note.{Note}
use Rattle.hotel_model.specs.declared.rows.RoomRow.{RoomRow}
use Rattle.hotel_model.specs.declared.rows.FitRow.{FitRow}
use Rattle.hotel_model.specs.Words.{said_of}
use Rattle.hotel_model.specs.Rows.{Rows, NoteKey, FitKey, fits_at, last_fit}
use Rattle.hotel_model.specs.Refits.{fit_row}

-- the fits of rooms
abbrev pub FitEntries : Type 0
FitEntries = List (FitKey × FitRow)

-- a room's row with the number of its last fit and how many notes were taken before that; as it stands without one
abbrev pub with_last : Option FitRow → RoomRow → RoomRow
with_last last row =
    record row { fit = said_of last row.fit (λ f. f.fit); before = said_of last row.before (λ f. f.before) }

-- a room's entry with the last fit of the room
abbrev pub with_fit : FitEntries → ℕ × RoomRow → ℕ × RoomRow
with_fit fits e = (e.0, with_last (last_fit (fits_at fits e.0)) e.1)

-- the fit under which a note of this number was taken: the last one with fewer notes before it
abbrev pub fit_of_number : List FitRow → ℕ → Option FitRow
fit_of_number fits n = last_fit (filter (λ (f : FitRow). nat_lt f.before n) fits)

-- a note of this number with its fit, and its count under it; as it stands without one
abbrev pub with_count : Option FitRow → ℕ → Note → Note
with_count of n note =
    record note { fit = said_of of note.fit (λ f. f.fit); count = said_of of note.count (λ f. n - f.before) }

-- a note's entry with its fit and count, its number being that among all notes of the room
abbrev pub under_fit : FitEntries → NoteKey × Note → NoteKey × Note
under_fit fits e = (e.0, with_count (fit_of_number (fits_at fits e.0.0) e.0.1) e.0.1 e.1)

-- rows whose rooms and notes are joined with these fits
abbrev pub joined_with : FitEntries → Rows → Rows
joined_with fits rows =
    record rows { rooms = map (with_fit fits) rows.rooms; notes = map (under_fit fits) rows.notes; fits = fits }

-- the fits of rooms of which each has the one that it began with
abbrev pub initial_fits : List (ℕ × RoomRow) → FitEntries
initial_fits rooms = map (λ e. ((e.0, 1), fit_row e.0 1 0 0)) rooms
