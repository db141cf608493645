-- What is tested of each row by itself.
use Rattle.std.specs.Prelude.{ℕ, ◌≡◌, ◌+◌, ◌-◌, Bool, true, List, ◌==◌, ◌&&◌, ◌||◌, not, nat_le, nat_lt, is_some}
use Rattle.std.specs.Prelude.{length, bytes_eq, string_bytes, option_map}
use Rattle.std.specs.List.{list_all, list_any, count_by}
use Rattle.hotel_nights.specs.FullNight.{takes}
use Rattle.std.specs.Ordering.{nat_cmp}
use Rattle.std.specs.Cmp.Lexicographic.{slice_cmp}
use Rattle.std.specs.BTreeMap.{is_at}
use Rattle.std.specs.Map.{lookup}
use Rattle.keycard_rules.specs.declared.card.Card.{Card}
use Rattle.keycard_rules.specs.declared.code.TheConstants.{CODES}
use Rattle.hotel_nights.specs.declared.nights.TheConstants.{MOST_NIGHTS}
use Rattle.keycard_rules.specs.declared.note.TheConstants.{LAST_SECOND}
use Rattle.keycard_rules.specs.declared.numbers.TheConstants.{LAST_ROOM}
use Rattle.hotel_nights.specs.declared.stay.Stay.{Stay}
use Rattle.hotel_nights.specs.Guests.{is_guest}
use Rattle.hotel_model.specs.declared.rows.RoomRow.{RoomRow}
use Rattle.hotel_model.specs.Words.{said_of}
use Rattle.hotel_model.specs.Rows.{Rows, InsideKey, has_kind, at_number, fits_at, begins_fit, room_is}
use Rattle.hotel_model.specs.Stays.{room_of_state}
use Rattle.hotel_model.specs.SoundRooms.{is_home_of, is_day}
use Rattle.hotel_model.specs.SoundStays.{has_party}
use Rattle.hotel_model.specs.SoundCards.{code_is, stands_at, is_newest, has_newest}
use Rattle.hotel_model.specs.SoundNotes.{comes_later, card_is, act_fits, fits_inside}
use Rattle.hotel_rows.specs.declared.stored.PlainRoom.{PlainRoom}
use Rattle.hotel_rows.specs.declared.stored.PlainStay.{PlainStay}
use Rattle.hotel_rows.specs.declared.stored.PlainCode.{PlainCode}
use Rattle.hotel_rows.specs.declared.stored.PlainCard.{PlainCard}
use Rattle.hotel_model.specs.Cards.{same_link}
use Rattle.hotel_rows.specs.declared.stored.PlainNote.{PlainNote}
use Rattle.hotel_rows.specs.declared.stored.PlainFit.{PlainFit}
use Rattle.hotel_rows.specs.declared.stored.Stored.{Stored}
use Rattle.hotel_rows.specs.Stored.{number_of, room_row, stay_row, note_row, link_row, fits_of, rows_of}
use Rattle.hotel_rows.specs.Damage.{most_notes, are_room_columns, are_stay_columns, are_note_columns}

-- the map has exactly these kinds
abbrev pub HasKinds : List (List ℕ × ℕ) → List (List ℕ) → Type 0
HasKinds known kinds = (q : List ℕ)
    → is_some (lookup (is_at (slice_cmp nat_cmp q)) known) ≡ list_any (λ k. bytes_eq k q) kinds

-- ---- room

-- from 1 up to a greatest number
abbrev pub is_number_up_to : ℕ → ℕ → Bool
is_number_up_to most n = nat_le 1 n && nat_le n most

-- the room's number is in range
abbrev pub is_room_number : PlainRoom → Bool
is_room_number plain = is_number_up_to LAST_ROOM (number_of plain.room)

-- a fit of the room begins with its last code
abbrev pub ends_with_fit : Stored → PlainRoom → Bool
ends_with_fit s plain = begins_fit (rows_of s) (number_of plain.room) (number_of plain.codes - 1)

-- a secured room's lock holds its last code, which isn't its first, nor the first of a fit
abbrev pub is_secured_as_due : Stored → PlainRoom → Bool
is_secured_as_due s plain =
    not (number_of plain.secured == 1)
    || ((number_of plain.lock_place == number_of plain.codes - 1) && nat_le 2 (number_of plain.codes)
    && not (ends_with_fit s plain))

-- the room has at most as many codes as there are cards, and those that its fits begin with
abbrev pub has_few_codes : Stored → PlainRoom → Bool
has_few_codes s plain =
    nat_le (number_of plain.codes) (length s.card.items + length (fits_at (fits_of s) (number_of plain.room)))

abbrev pub is_at_home : Rows → RoomRow → Bool
is_at_home rows row = said_of row.party true (is_home_of rows row)

abbrev pub room_fits : Stored → PlainRoom → Bool
room_fits s plain =
    are_room_columns plain && is_room_number plain && nat_lt (number_of plain.lock_place) (number_of plain.codes)
    && has_kind (rows_of s) (string_bytes plain.kind)
    && has_few_codes s plain && nat_le (number_of plain.notes) (most_notes s) && is_at_home (rows_of s) (room_row plain)
    && is_secured_as_due s plain

-- ---- stay

-- days in range, 1 to MOST_NIGHTS nights
abbrev pub are_stay_days : PlainStay → Bool
are_stay_days plain =
    is_day (number_of plain.depart) && nat_lt (number_of plain.arrive) (number_of plain.depart)
    && nat_le (number_of plain.depart) (number_of plain.arrive + MOST_NIGHTS)

abbrev pub has_home : Rows → Stay → Bool
has_home rows stay = said_of (room_of_state stay.state) true (has_party rows stay.party)

abbrev pub stay_has_home : Stored → PlainStay → Bool
stay_has_home s plain = has_home (rows_of s) (stay_row plain)

abbrev pub stay_fits : Stored → PlainStay → Bool
stay_fits s plain =
    are_stay_columns plain && is_guest (string_bytes plain.guest) && has_kind (rows_of s) (string_bytes plain.kind)
    && are_stay_days plain && stay_has_home s plain

abbrev pub is_room_of_kind : List ℕ → PlainRoom → Bool
is_room_of_kind kind plain = bytes_eq (string_bytes plain.kind) kind

-- on the stay's first night, its kind isn't taken by more stays than it has rooms
abbrev pub has_night : Stored → PlainStay → Bool
has_night s plain =
    nat_le (count_by (λ (stay : PlainStay). takes (string_bytes plain.kind) (number_of plain.arrive) (stay_row stay))
    s.stay.items)
    (count_by (is_room_of_kind (string_bytes plain.kind)) s.room.items)

-- ---- code

abbrev pub code_fits : Rows → PlainCode → Bool
code_fits rows plain = nat_lt (number_of plain.code) CODES && is_some (at_number rows.rooms (number_of plain.room))

abbrev pub recoding_fits : Rows → ℕ → ℕ → ℕ → Bool
recoding_fits rows room from to = code_is rows from (λ first. code_is rows to (comes_later room first))

-- ---- card

-- a card's party has a stay, and its codes are neighbours at one room
abbrev pub card_fits : Rows → Card → Bool
card_fits rows card = is_some (at_number rows.stays card.party)
    && code_is rows card.link.new_code (λ new. stands_at rows new.room card.link)

-- the card and each other one of the same link have one party
abbrev pub agree : PlainCard → PlainCard → Bool
agree a b = not (same_link (link_row a) (link_row b)) || (number_of a.party == number_of b.party)

abbrev pub agrees : Stored → PlainCard → Bool
agrees s plain = list_all (agree plain) s.card.items

-- a card brought the code
abbrev pub has_card : Stored → PlainCode → Bool
has_card s plain = list_any (λ (card : PlainCard). number_of card.new_code == number_of plain.code) s.card.items

-- a fit begins with the code
abbrev pub begins_one : Stored → PlainCode → Bool
begins_one s plain = begins_fit (rows_of s) (number_of plain.room) (number_of plain.place)

-- the code is the first of its room, or a fit begins with it, or a card brought it; not both of the last two
abbrev pub is_brought : Stored → PlainCode → Bool
is_brought s plain =
    ((number_of plain.place == 0) || begins_one s plain || has_card s plain)
    && not (begins_one s plain && has_card s plain)

-- a card of the room's newest link is of the party
abbrev pub is_owned : Stored → ℕ → ℕ → PlainCard → Bool
is_owned s room party card = not (is_newest (rows_of s) room (link_row card)) || (number_of card.party == party)

-- all cards of the room's newest link are of its party, where it has one
abbrev pub has_owner : Stored → PlainRoom → Bool
has_owner s plain = said_of (option_map number_of plain.party) true
    (λ party. list_all (is_owned s (number_of plain.room) party) s.card.items)

-- the last card of a party in house has the newest link of its room
abbrev pub has_last : Stored → PlainStay → Bool
has_last s plain = said_of (room_of_state (stay_row plain).state) true (has_newest (rows_of s) (number_of plain.party))

-- the rules on links, each a test of each row
abbrev pub links_hold : Stored → Bool
links_hold s =
    list_all (agrees s) s.card.items && list_all (is_brought s) s.code.items && list_all (has_owner s) s.room.items
    && list_all (has_last s) s.stay.items

-- ---- inside

abbrev pub inside_fits : Rows → InsideKey → Bool
inside_fits rows e = room_is rows e.0 (λ row. card_is rows e.1 (fits_inside rows e.0 row))

-- ---- note

abbrev pub plain_note_fits : Rows → PlainNote → Bool
plain_note_fits rows plain =
    are_note_columns plain && is_some (at_number rows.rooms (number_of plain.room))
    && act_fits rows (number_of plain.room) (note_row plain).act && is_day (number_of plain.day)
    && nat_le (number_of plain.second) LAST_SECOND

-- ---- fit

-- the fit's room is there
abbrev pub has_room : Rows → PlainFit → Bool
has_room rows plain = is_some (at_number rows.rooms (number_of plain.room))
