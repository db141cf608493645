-- What is counted of plain rows: the rooms of each kind, and the nights of the stays; and which rows can be counted.
use Rattle.std.specs.Prelude.{◌≡◌, ◌+◌, ◌-◌, ◌^◌, ◌==◌, ◌&&◌, ℕ, Bool, true, not, nat_le, nat_lt, length}
use Rattle.std.specs.Prelude.{List, map, Option, Some, None, option_map, Result, Ok, Err, bytes_eq, string_bytes}
use Rattle.std.specs.List.{list_all, list_any, count_by}
use Rattle.std.specs.Map.{values_of}
use Rattle.keycard_rules.specs.declared.numbers.TheConstants.{LAST_NUMBER, LAST_ROOM}
use Rattle.hotel_nights.specs.Guests.{is_guest}
use Rattle.hotel_nights.specs.Kinds.{is_kind}
use Rattle.hotel_model.specs.Words.{said_of}
use Rattle.hotel_model.specs.SoundRooms.{is_day}
use Rattle.hotel_books.specs.KindRooms as kinds
use Rattle.hotel_books.specs.NightIndex.{CountsNights}
use Rattle.hotel_rows.specs.declared.stored.PlainKind.{PlainKind}
use Rattle.hotel_rows.specs.declared.stored.PlainRoom.{PlainRoom}
use Rattle.hotel_rows.specs.declared.stored.PlainStay.{PlainStay}
use Rattle.hotel_rows.specs.declared.stored.Stored.{Stored}
use Rattle.hotel_rows.specs.declared.stored.TableName.{TableName}
use Rattle.hotel_rows.specs.declared.counts.Counts.{Counts}
use Rattle.hotel_rows.specs.Damage.{first_damaged_of}
use Rattle.hotel_rows.specs.Stored.{number_of, kind_text, stay_entry}
use Rattle.hotel_rows.specs.RowTests.{is_number_up_to, is_room_of_kind}

-- one of the rows is of the kind
abbrev pub names_kind : List ℕ → List PlainKind → Bool
names_kind kind plain_rows = list_any (λ plain. bytes_eq (kind_text plain) kind) plain_rows

-- each kind of the rows is counted
abbrev pub KnowsKinds : List (List ℕ × ℕ) → List PlainKind → Type 0
KnowsKinds counts plain_rows = (kind : List ℕ) → names_kind kind plain_rows ≡ true → kinds.is_there counts kind ≡ true

-- the counts are those of the plain rows
abbrev pub IsCountedOf : Stored → Counts → Type 0
IsCountedOf s c =
    ((kind : List ℕ) → kinds.rooms_in c.kinds kind ≡ count_by (is_room_of_kind kind) s.room.items)
    × (CountsNights c.nights (values_of (map stay_entry s.stay.items)) × KnowsKinds c.kinds s.kind.items)

-- The counts tell whether a stay has its first night: its kind reads, its first night and the day after it are days,
-- and its kind has fewer rooms than the greatest count.
abbrev pub tells_night : Counts → PlainStay → Bool
tells_night c plain =
    is_kind (string_bytes plain.kind) && is_day (number_of plain.arrive + 1)
    && nat_lt (kinds.rooms_in c.kinds (string_bytes plain.kind)) (2 ^ 32 - 1)

-- ---- rows that can be counted

-- in house, 1, at a room's number; or booked, done or cancelled, 0, 2 or 3, without a room
abbrev pub tells_state : ℕ → Option ℕ → Bool
tells_state n room = said_of room (nat_le n 3 && not (n == 1)) (λ r. (n == 1) && is_number_up_to LAST_ROOM r)

-- the columns are those of a stay, each in its range
abbrev pub tells_stay : PlainStay → Bool
tells_stay plain =
    is_number_up_to LAST_NUMBER (number_of plain.party) && is_guest (string_bytes plain.guest)
    && is_kind (string_bytes plain.kind) && is_day (number_of plain.arrive) && is_day (number_of plain.depart)
    && tells_state (number_of plain.state) (option_map number_of plain.room)

-- no more rooms than numbers of rooms, each of one of the kinds, which read as kind codes
abbrev pub are_rooms_of : List PlainKind → List PlainRoom → Bool
are_rooms_of plain_kinds plain_rooms =
    list_all (λ kind. is_kind (kind_text kind)) plain_kinds
    && list_all (λ room. names_kind (string_bytes room.kind) plain_kinds) plain_rooms
    && nat_le (length plain_rooms) LAST_ROOM

-- What is counted of rows of which no table is damaged, or the first damaged table.
abbrev pub IsTested : Stored → Result Counts TableName → Type 0
IsTested s (Ok counts) = (first_damaged_of s ≡ None) × IsCountedOf s counts
IsTested s (Err table) = first_damaged_of s ≡ Some table
