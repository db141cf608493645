-- The fits of each room: its locks, one after the other, numbered from 1 on.
use Rattle.std.specs.Prelude.{ℕ, Bool, List, ◌+◌, ◌==◌, nat_le, length}
use Rattle.std.specs.BTreeMap.{insert_entry}
use Rattle.keycard_rules.specs.declared.numbers.TheConstants.{LAST_FIT}
use Rattle.hotel_model.specs.declared.rows.FitRow.{FitRow}
use Rattle.hotel_model.specs.Words.{when, pair_cmp}
use Rattle.hotel_model.specs.Rows.{FitKey, column_at}
use Rattle.hotel_model.specs.Event.{Install, Refitted}
use Rattle.hotel_model.specs.History.{History, start, ◌▷◌}
use Rattle.hotel_model.specs.Issued.{issued}
use Rattle.hotel_model.specs.Notes.{notes}

-- The fit of a room: the number of its present lock. A new room has fit 1, and each refit gives the next.
abbrev pub present_fit : History → ℕ → ℕ
present_fit (start t) r = column_at t.rooms r (λ row. row.fit)
present_fit (h ▷ Install room kind code) r = when (room == r) (λ _. 1) (present_fit h r)
present_fit (h ▷ Refitted room number code) r = when (room == r) (λ _. number) (present_fit h r)
present_fit (h ▷ _) r = present_fit h r

-- How many notes of a room were taken before its present fit.
abbrev pub notes_before : History → ℕ → ℕ
notes_before (start t) r = column_at t.rooms r (λ row. row.before)
notes_before (h ▷ Refitted room number code) r = when (room == r) (λ _. length (notes h room)) (notes_before h r)
notes_before (h ▷ _) r = notes_before h r

-- a fit of a room: the place of its first code, and how many notes of the room were taken before it
abbrev pub fit_row : ℕ → ℕ → ℕ → ℕ → FitRow
fit_row room number place notes = record { room = room; fit = number; place = place; before = notes }

-- All fits, by room and number.
abbrev pub fits : History → List (FitKey × FitRow)
fits (start t) = t.fits
fits (h ▷ Install room kind code) = insert_entry pair_cmp (fits h) (room, 1) (fit_row room 1 0 0)
fits (h ▷ Refitted room number code) =
    insert_entry pair_cmp (fits h) (room, number) (fit_row room number (length (issued h room)) (length (notes h room)))
fits (h ▷ _) = fits h

-- the room has had that fit: it is the present one or an earlier one
abbrev pub is_fit : History → ℕ → ℕ → Bool
is_fit h room number = nat_le number (present_fit h room)

-- the room's fit is the last that a room can have
abbrev pub fits_used_up : History → ℕ → Bool
fits_used_up h room = nat_le LAST_FIT (present_fit h room)

-- the fit that the room's next lock is given
abbrev pub next_fit : History → ℕ → ℕ
next_fit h room = present_fit h room + 1
