-- The rules of each table, and the first table of which one fails.
use Rattle.std.specs.Prelude.{ℕ, ◌≡◌, ◌↔◌, Bool, true, List, [], ◌∷◌, Option, Some, None}
use Rattle.std.specs.Prelude.{◌*◌, ◌==◌, ◌&&◌, not, nat_le, is_some, if◌then◌else◌}
use Rattle.std.specs.List.{list_all}
use Rattle.std.specs.Map.{keys_of}
use Rattle.std.specs.Ordering.{nat_cmp}
use Rattle.std.specs.Cmp.Lexicographic.{slice_cmp}
use Rattle.keycard_rules.specs.declared.numbers.TheConstants.{LAST_FIT, LAST_NUMBER}
use Rattle.hotel_model.specs.Words.{said_of, pair_cmp}
use Rattle.hotel_model.specs.SoundRooms.{are_in_order, day_in_range, day_before_kinds, kinds_read}
use Rattle.hotel_model.specs.SoundRooms.{room_numbers, lock_places, room_kinds_there, codes_few, each_room}
use Rattle.hotel_model.specs.SoundRooms.{parties_in_house, secured_hold_last}
use Rattle.hotel_model.specs.SoundStays.{stay_numbers, guests_read, stay_kinds_there, stay_days}
use Rattle.hotel_model.specs.SoundStays.{stay_rooms, nights_fit}
use Rattle.hotel_model.specs.SoundCards.{codes_in_range, code_rooms_there, places_once, card_numbers}
use Rattle.hotel_model.specs.SoundCards.{card_parties_there, links_are_neighbours, links_of_one_party}
use Rattle.hotel_model.specs.SoundCards.{neighbours_are_links, fits_without_links}
use Rattle.hotel_model.specs.SoundCards.{newest_of_party, last_cards_newest}
use Rattle.hotel_model.specs.SoundNotes.{insides_fit, notes_fit, notes_counted}
use Rattle.hotel_model.specs.SoundFits.{fit_rooms_there, fit_numbers, first_fits, fit_places_rise, fit_notes_rise}
use Rattle.hotel_model.specs.SoundFits.{last_fits_held, last_fits_noted, fit_notes_few}
use Rattle.hotel_model.specs.Sound.{IsSound}
use Rattle.hotel_rows.specs.declared.stored.PlainRoom.{PlainRoom}
use Rattle.hotel_rows.specs.declared.stored.PlainStay.{PlainStay}
use Rattle.hotel_rows.specs.declared.stored.PlainNote.{PlainNote}
use Rattle.hotel_rows.specs.declared.stored.Stored.{Stored}
use Rattle.hotel_rows.specs.declared.stored.TableName.{TableName}
use Rattle.hotel_rows.specs.declared.stored.TableName.TheVariants as table
use Rattle.hotel_rows.specs.Stored.{number_of, rows_of}

-- a room's column `secured` is 0 or 1
abbrev pub are_room_columns : PlainRoom → Bool
are_room_columns plain = nat_le (number_of plain.secured) 1

-- a stay's state is 0 to 3, and it has a room exactly in state 1, in house
abbrev pub are_stay_columns : PlainStay → Bool
are_stay_columns plain = nat_le (number_of plain.state) 3 && (if is_some plain.room then number_of plain.state == 1
    else not (number_of plain.state == 1))

-- a note's act is 0 to 2, and it has a card but in act 2, recoded
abbrev pub are_note_columns : PlainNote → Bool
are_note_columns plain = nat_le (number_of plain.act) 2 && (if is_some plain.card then nat_le (number_of plain.act) 1
    else number_of plain.act == 2)

abbrev pub meta_holds : Stored → Bool
meta_holds s = day_in_range (rows_of s) && day_before_kinds (rows_of s)

abbrev pub kind_holds : Stored → Bool
kind_holds s = are_in_order (slice_cmp nat_cmp) (rows_of s).kinds && kinds_read (rows_of s)

-- the most notes of a room: those that all its fits can count, or one in the first version
abbrev pub most_notes : Stored → ℕ
most_notes s = said_of s.fit LAST_NUMBER (λ fits. LAST_FIT * LAST_NUMBER)

abbrev pub notes_few : Stored → Bool
notes_few s = each_room (rows_of s) (λ row. nat_le row.notes (most_notes s))

abbrev pub room_holds : Stored → Bool
room_holds s =
    are_in_order nat_cmp (keys_of (rows_of s).rooms) && list_all are_room_columns s.room.items
    && room_numbers (rows_of s) && lock_places (rows_of s) && room_kinds_there (rows_of s)
    && codes_few (rows_of s) && notes_few s && parties_in_house (rows_of s) && secured_hold_last (rows_of s)

abbrev pub stay_holds : Stored → Bool
stay_holds s =
    are_in_order nat_cmp (keys_of (rows_of s).stays) && list_all are_stay_columns s.stay.items
    && stay_numbers (rows_of s) && guests_read (rows_of s) && stay_kinds_there (rows_of s)
    && stay_days (rows_of s) && stay_rooms (rows_of s) && nights_fit (rows_of s)

abbrev pub code_holds : Stored → Bool
code_holds s = are_in_order nat_cmp (keys_of (rows_of s).codes) && codes_in_range (rows_of s)
    && code_rooms_there (rows_of s) && places_once (rows_of s)

abbrev pub card_holds : Stored → Bool
card_holds s =
    are_in_order nat_cmp (keys_of (rows_of s).cards) && card_numbers (rows_of s) && card_parties_there (rows_of s)
    && links_are_neighbours (rows_of s) && links_of_one_party (rows_of s)
    && neighbours_are_links (rows_of s) && fits_without_links (rows_of s) && newest_of_party (rows_of s)
    && last_cards_newest (rows_of s)

abbrev pub inside_holds : Stored → Bool
inside_holds s = are_in_order pair_cmp (rows_of s).inside && insides_fit (rows_of s)

abbrev pub note_holds : Stored → Bool
note_holds s = are_in_order pair_cmp (keys_of (rows_of s).notes) && list_all are_note_columns s.note.items
    && notes_counted (rows_of s) && notes_fit (rows_of s)

-- that a room's row and a note are of a fit follows: they have no columns for it
abbrev pub fit_holds : Stored → Bool
fit_holds s =
    are_in_order pair_cmp (keys_of (rows_of s).fits) && fit_rooms_there (rows_of s) && fit_numbers (rows_of s)
    && first_fits (rows_of s) && fit_places_rise (rows_of s) && fit_notes_rise (rows_of s) && last_fits_held (rows_of s)
    && last_fits_noted (rows_of s) && fit_notes_few (rows_of s)

-- Each rule of a table holds, and its rows are in the order of their keys, no key twice.
abbrev pub table_holds : TableName → Stored → Bool
table_holds table.Meta s = meta_holds s
table_holds table.Kind s = kind_holds s
table_holds table.Room s = room_holds s
table_holds table.Stay s = stay_holds s
table_holds table.Code s = code_holds s
table_holds table.Card s = card_holds s
table_holds table.Inside s = inside_holds s
table_holds table.Note s = note_holds s
table_holds table.Fit s = fit_holds s

-- the first of the tables that doesn't hold
abbrev pub first_of_tables : List TableName → Stored → Option TableName
first_of_tables [] s = None
first_of_tables (t ∷ ts) s = if table_holds t s then first_of_tables ts s else Some t

-- The first damaged table.
abbrev pub first_damaged_of : Stored → Option TableName
first_damaged_of = first_of_tables
    (table.Meta ∷ table.Kind ∷ table.Room ∷ table.Stay ∷ table.Code ∷ table.Card ∷ table.Inside ∷ table.Note ∷ table.Fit
    ∷ [])

-- what the rows of the books don't show: each column is of its range
abbrev pub columns_fit : Stored → Bool
columns_fit s =
    list_all are_room_columns s.room.items && list_all are_stay_columns s.stay.items
    && list_all are_note_columns s.note.items

-- No table is damaged exactly where the rows are sound and each column is of its range.
abbrev pub UndamagedIsSound : Type 0
UndamagedIsSound = (s : Stored) → (first_damaged_of s ≡ None) ↔ (IsSound (rows_of s) × (columns_fit s ≡ true))
