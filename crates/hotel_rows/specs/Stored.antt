-- Stored rows as the rows of the books.
use Rattle.std.specs.Prelude.{ℕ, ◌==◌, ℤ, pos, negsuc, List, map, Option, option_map, string_bytes}
use Rattle.std.specs.Prelude.{if◌then◌else◌, unwrap_or}
use Rattle.keycard_rules.specs.declared.card.Card.{Card}
use Rattle.keycard_rules.specs.declared.card.Link.{Link}
use Rattle.keycard_rules.specs.Note.{Note}
use Rattle.keycard_rules.specs.declared.note.Act.{Act}
use Rattle.keycard_rules.specs.declared.note.Act.TheVariants as act
use Rattle.hotel_nights.specs.declared.stay.Stay.{Stay}
use Rattle.hotel_nights.specs.declared.stay.StayState.{StayState}
use Rattle.hotel_nights.specs.declared.stay.StayState.TheVariants as state
use Rattle.hotel_model.specs.declared.rows.CodeRow.{CodeRow}
use Rattle.hotel_model.specs.declared.rows.RoomRow.{RoomRow}
use Rattle.hotel_model.specs.declared.rows.FitRow.{FitRow}
use Rattle.hotel_model.specs.Words.{said_of}
use Rattle.hotel_model.specs.Rows.{Rows, InsideKey, NoteKey, FitKey}
use Rattle.hotel_rows.specs.declared.stored.PlainKind.{PlainKind}
use Rattle.hotel_rows.specs.declared.stored.PlainRoom.{PlainRoom}
use Rattle.hotel_rows.specs.declared.stored.PlainStay.{PlainStay}
use Rattle.hotel_rows.specs.declared.stored.PlainCode.{PlainCode}
use Rattle.hotel_rows.specs.declared.stored.PlainCard.{PlainCard}
use Rattle.hotel_rows.specs.declared.stored.PlainInside.{PlainInside}
use Rattle.hotel_rows.specs.declared.stored.PlainNote.{PlainNote}
use Rattle.hotel_rows.specs.declared.stored.PlainFit.{PlainFit}
use Rattle.hotel_rows.specs.declared.stored.Stored.{Stored}
use Rattle.hotel_rows.specs.declared.damage.numbers.TheConstants.{NO_NUMBER}
use Rattle.hotel_rows.specs.Joined.{with_fit, under_fit, FitEntries}

-- A stored number; one below 0 is read as one that no rule takes.
abbrev pub number_of : ℤ → ℕ
number_of (pos n) = n
number_of (negsuc n) = NO_NUMBER

-- a room; its table has no column for its fit, nor for the notes before it
abbrev pub room_row : PlainRoom → RoomRow
room_row plain = record {
  room = number_of plain.room;
  kind = string_bytes plain.kind;
  lock_place = number_of plain.lock_place;
  codes = number_of plain.codes;
  secured = number_of plain.secured == 1;
  party = option_map number_of plain.party;
  notes = number_of plain.notes;
  fit = 0;
  before = 0;
}

-- how a stay stands, by the number of the state and the room; the columns are tested by a rule of their own
abbrev pub state_of : ℕ → Option ℕ → StayState
state_of n room =
    if n == 0 then state.Booked else if n == 1 then state.InHouse (unwrap_or room NO_NUMBER)
    else if n == 2 then state.Done else state.Cancelled

-- a stay
abbrev pub stay_row : PlainStay → Stay
stay_row plain = record {
  party = number_of plain.party;
  guest = string_bytes plain.guest;
  kind = string_bytes plain.kind;
  arrive = number_of plain.arrive;
  depart = number_of plain.depart;
  state = state_of (number_of plain.state) (option_map number_of plain.room);
}

-- where a code stands
abbrev pub code_row : PlainCode → CodeRow
code_row plain = record { room = number_of plain.room; place = number_of plain.place }

-- the codes of a card
abbrev pub link_row : PlainCard → Link
link_row plain = record { old_code = number_of plain.old_code; new_code = number_of plain.new_code }

-- a card
abbrev pub card_row : PlainCard → Card
card_row plain = record { number = number_of plain.number; party = number_of plain.party; link = link_row plain }

-- what happened, by the number of the act, the card (none where staff recoded the lock) and the two codes; the columns
-- are tested by a rule of their own
abbrev pub act_of : ℕ → Option ℕ → ℕ → ℕ → Act
act_of n card first second =
    if n == 0 then act.Entered (unwrap_or card NO_NUMBER) (record { old_code = first; new_code = second })
    else if n == 1 then act.Left (unwrap_or card NO_NUMBER) (record { old_code = first; new_code = second })
    else act.Recoded first second

-- a note: its table has no column for its fit, and its number is that among all notes of the room
abbrev pub note_row : PlainNote → Note
note_row plain = record {
  room = number_of plain.room;
  fit = 0;
  count = number_of plain.n;
  act = act_of (number_of plain.act) (option_map number_of plain.card) (number_of plain.first_code)
      (number_of plain.second_code);
  day = number_of plain.day;
  second = number_of plain.second;
}

-- a fit
abbrev pub fit_row : PlainFit → FitRow
fit_row plain = record {
  room = number_of plain.room;
  fit = number_of plain.fit;
  place = number_of plain.place;
  before = number_of plain.before;
}

abbrev pub kind_text : PlainKind → List ℕ
kind_text plain = string_bytes plain.kind

abbrev pub room_entry : PlainRoom → ℕ × RoomRow
room_entry plain = (number_of plain.room, room_row plain)

abbrev pub stay_entry : PlainStay → ℕ × Stay
stay_entry plain = (number_of plain.party, stay_row plain)

abbrev pub code_entry : PlainCode → ℕ × CodeRow
code_entry plain = (number_of plain.code, code_row plain)

abbrev pub card_entry : PlainCard → ℕ × Card
card_entry plain = (number_of plain.number, card_row plain)

abbrev pub inside_pair : PlainInside → InsideKey
inside_pair plain = (number_of plain.room, number_of plain.card)

abbrev pub note_entry : PlainNote → NoteKey × Note
note_entry plain = ((number_of plain.room, number_of plain.n), note_row plain)

abbrev pub fit_entry : PlainFit → FitKey × FitRow
fit_entry plain = ((number_of plain.room, number_of plain.fit), fit_row plain)

-- the fit that a room begins with
abbrev pub first_fit : PlainRoom → PlainFit
first_fit plain = record { room = plain.room; fit = pos 1; place = pos 0; before = pos 0 }

-- the fits; in the first version each room has the one that it began with
abbrev pub plain_fits : Stored → List PlainFit
plain_fits s = said_of s.fit (map first_fit s.room.items) (λ fits. fits.items)

-- the fits of all rooms, by room and fit
abbrev pub fits_of : Stored → FitEntries
fits_of s = map fit_entry (plain_fits s)

-- a room, joined with its last fit
abbrev pub joined_row : FitEntries → PlainRoom → RoomRow
joined_row fits plain = (with_fit fits (room_entry plain)).1

-- a note, joined with its fit
abbrev pub joined_note : FitEntries → PlainNote → Note
joined_note fits plain = (under_fit fits (note_entry plain)).1

-- The stored rows as the rows of the books, whatever they are; those of rooms and notes are joined with the fits.
abbrev pub rows_of : Stored → Rows
rows_of s = record {
  day = option_map number_of s.day;
  kinds = map kind_text s.kind.items;
  rooms = map (with_fit (fits_of s)) (map room_entry s.room.items);
  codes = map code_entry s.code.items;
  stays = map stay_entry s.stay.items;
  cards = map card_entry s.card.items;
  inside = map inside_pair s.inside.items;
  notes = map (under_fit (fits_of s)) (map note_entry s.note.items);
  fits = fits_of s;
}
