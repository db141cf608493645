-- The rules of sound rows, first part: the day, kinds and rooms. Each rule is a test of all rows.
use Rattle.std.specs.Prelude.{ℕ, Bool, true, false, List, [], ◌∷◌, ◌+◌, ◌*◌, ◌-◌, ◌==◌, ◌&&◌, ◌||◌, not, nat_le, nat_lt}
use Rattle.std.specs.Prelude.{length, is_some, bytes_eq}
use Rattle.std.specs.Ordering.{is_lt}
use Rattle.std.specs.declared.cmp.Ordering.{Ordering}
use Rattle.std.specs.List.{list_all}
use Rattle.keycard_rules.specs.declared.note.TheConstants.{LAST_DAY}
use Rattle.keycard_rules.specs.declared.numbers.TheConstants.{LAST_FIT, LAST_NUMBER, LAST_ROOM}
use Rattle.hotel_model.specs.declared.rows.RoomRow.{RoomRow}
use Rattle.hotel_model.specs.Words.{is_that, said_of}
use Rattle.hotel_model.specs.Rows.{Rows, at_number, has_kind, fits_at, begins_fit}
use Rattle.hotel_model.specs.Stays.{room_of_state}
use Rattle.hotel_nights.specs.Kinds.{is_kind}

-- each key comes before the next one
abbrev pub are_in_order : {K : Type 0} → (K → K → Ordering) → List K → Bool
are_in_order cmp [] = true
are_in_order cmp (x ∷ []) = true
are_in_order cmp (x ∷ y ∷ zs) = is_lt (cmp x y) && are_in_order cmp (y ∷ zs)

-- the numbers are n, n + 1 and so on, without holes
abbrev pub count_up : ℕ → List ℕ → Bool
count_up n [] = true
count_up n (x ∷ xs) = (x == n) && count_up (n + 1) xs

-- ---- meta and kind

-- a day of the calendar
abbrev pub is_day : ℕ → Bool
is_day d = nat_le d LAST_DAY

-- the day is null or in range
abbrev pub day_in_range : Rows → Bool
day_in_range rows = said_of rows.day true is_day

-- the day is null only where there is no kind
abbrev pub day_before_kinds : Rows → Bool
day_before_kinds rows = is_some rows.day || (length rows.kinds == 0)

-- each kind reads as a kind code: 1 to 8 letters or digits
abbrev pub kinds_read : Rows → Bool
kinds_read rows = list_all is_kind rows.kinds

-- ---- room: rules of all rooms

-- the rule holds of each room's row
abbrev pub each_room : Rows → (RoomRow → Bool) → Bool
each_room rows rule = list_all (λ (e : ℕ × RoomRow). rule e.1) rows.rooms

-- each row has the number that is its key, from 1 on
abbrev pub room_numbers : Rows → Bool
room_numbers rows = list_all (λ (e : ℕ × RoomRow). (e.1.room == e.0) && nat_le 1 e.0 && nat_le e.0 LAST_ROOM) rows.rooms

-- the lock's place is one of the room's codes
abbrev pub lock_places : Rows → Bool
lock_places rows = each_room rows (λ row. nat_lt row.lock_place row.codes)

-- each room's kind is there
abbrev pub room_kinds_there : Rows → Bool
room_kinds_there rows = each_room rows (λ row. has_kind rows row.kind)

-- a room has at most as many codes as there are cards, and those that its fits begin with
abbrev pub codes_few : Rows → Bool
codes_few rows = each_room rows (λ row. nat_le row.codes (length rows.cards + length (fits_at rows.fits row.room)))

-- a room has at most as many notes as all fits of a room can count
abbrev pub note_counts : Rows → Bool
note_counts rows = each_room rows (λ row. nat_le row.notes (LAST_FIT * LAST_NUMBER))

-- the party is in house at the row's room, and booked its kind
abbrev pub is_home_of : Rows → RoomRow → ℕ → Bool
is_home_of rows row party = said_of (at_number rows.stays party) false
    (λ stay. is_that (room_of_state stay.state) row.room && bytes_eq row.kind stay.kind)

-- a room's party is in house at this room, and booked its kind
abbrev pub parties_in_house : Rows → Bool
parties_in_house rows = each_room rows (λ row. said_of row.party true (is_home_of rows row))

-- a secured room's lock holds its last code, which isn't its first, nor the first of a fit
abbrev pub secured_hold_last : Rows → Bool
secured_hold_last rows = each_room rows (λ row. not row.secured
    || ((row.lock_place == row.codes - 1) && nat_le 2 row.codes && not (begins_fit rows row.room (row.codes - 1))))
