-- The rows of the lists, read off the rows of the books.
use Rattle.std.specs.Prelude.{ℕ, Bool, List, [], ◌∷◌, Option, None, ◌-◌, ◌==◌, ◌&&◌, if◌then◌else◌, nat_le, nat_lt}
use Rattle.std.specs.Prelude.{map, filter, filter_map, option_map}
use Rattle.std.specs.List.{range_with_len}
use Rattle.std.specs.Map.{values_of}
use Rattle.keycard_rules.specs.{declared.card.Card.Card, declared.numbers.TheConstants.LAST_NUMBER, Note.Note}
use Rattle.hotel_nights.specs.{declared.stay.Stay.Stay, FullNight.nights_taken, Moments.moment_of}
use Rattle.hotel_model.specs.{declared.rows.RoomRow.RoomRow, declared.list_rows.HouseRow.HouseRow}
use Rattle.hotel_model.specs.{declared.list_rows.ChainRow.ChainRow}
use Rattle.hotel_model.specs.{declared.list_rows.BehindRow.BehindRow, declared.list_rows.CodeState.CodeState}
use Rattle.hotel_model.specs.declared.list_rows.StatusRow.{StatusRow}
use Rattle.hotel_model.specs.declared.list_rows.InsideRow.{InsideRow}
use Rattle.hotel_model.specs.declared.list_rows.FreeRow.{FreeRow}
use Rattle.hotel_model.specs.declared.list_rows.CardRow.{CardRow}
use Rattle.hotel_model.specs.declared.list_rows.LockRow.{LockRow}
use Rattle.hotel_model.specs.{Words.said_of, Words.greatest, Lists.arrives_on, Lists.is_booking, Lists.are_ahead}
use Rattle.hotel_model.specs.{Lists.card_row}
use Rattle.hotel_model.specs.declared.list_rows.CodeState.TheVariants.{Passed, Held, Awaited}
use Rattle.hotel_model.specs.{Rows.Rows, Rows.InsideKey, Rows.rooms_of_kind, Refinement.Lookups.room_at}
use Rattle.hotel_model.specs.{Refinement.Lookups.stay_at, Refinement.Lookups.code_at, Refinement.Lookups.card_at}
use Rattle.hotel_model.specs.{Refinement.Lookups.note_at}

-- Booked stays that take the night of a day, by party.
abbrev pub arrivals_on : Rows → ℕ → List Stay
arrivals_on rows day = filter (arrives_on day) (values_of rows.stays)

-- a room with its party's stay
abbrev pub housed : RoomRow → Stay → HouseRow
housed row stay = record {
  room = row.room;
  party = stay.party;
  guest = stay.guest;
  kind = stay.kind;
  depart = stay.depart;
  secured = row.secured;
}

-- the row of a room's party, where one is registered there
abbrev pub house_row_on : Rows → RoomRow → Option HouseRow
house_row_on rows row = said_of row.party None (λ party. option_map (housed row) (stay_at rows party))

-- Rooms with a registered party, by room.
abbrev pub in_house_on : Rows → List HouseRow
in_house_on rows = filter_map (house_row_on rows) (values_of rows.rooms)

-- how the code at a place stands, where the lock stands at another
abbrev pub state_at : ℕ → ℕ → CodeState
state_at lock_place place = if nat_lt place lock_place then Passed else if place == lock_place then Held else Awaited

-- the row of a room's code at a place, where one is there
abbrev pub chain_row_on : Rows → RoomRow → ℕ → Option ChainRow
chain_row_on rows row place = option_map
    (λ code. let r : ChainRow = record { place = place; code = code; state = state_at row.lock_place place } in r)
    (code_at rows row.room place)

-- A room's codes with their places and states, by place.
abbrev pub chain_on : Rows → ℕ → List ChainRow
chain_on rows room =
    said_of (room_at rows room) [] (λ row. filter_map (chain_row_on rows row) (range_with_len 0 row.codes))

-- how many codes come after the one that the room's lock holds
abbrev pub awaited_on : RoomRow → ℕ
awaited_on row = row.codes - row.lock_place - 1

-- a room that is left behind, with the codes that its lock holds and that were issued last
abbrev pub behind_at : RoomRow → ℕ → ℕ → BehindRow
behind_at row held current = record { room = row.room; held = held; current = current; awaited = awaited_on row }

-- the row of a room with two awaited codes or more
abbrev pub behind_row_on : Rows → RoomRow → Option BehindRow
behind_row_on rows row = if nat_le 2 (awaited_on row) then said_of (code_at rows row.room row.lock_place) None
    (λ held. option_map (behind_at row held) (code_at rows row.room (row.codes - 1))) else None

-- Rooms with two awaited codes or more, by room.
abbrev pub left_behind_on : Rows → List BehindRow
left_behind_on rows = filter_map (behind_row_on rows) (values_of rows.rooms)

-- The business day, once it is set.
abbrev pub business_day_on : Rows → List ℕ
business_day_on rows = said_of rows.day [] (λ d. d ∷ [])

-- the row of a room
abbrev pub status_row_on : RoomRow → StatusRow
status_row_on row = record {
  room = row.room;
  kind = row.kind;
  party = row.party;
  secured = row.secured;
  awaited = awaited_on row;
}

-- All rooms, by room.
abbrev pub room_status_on : Rows → List StatusRow
room_status_on rows = map status_row_on (values_of rows.rooms)

-- the row of a card inside a room, with the party that it was given to
abbrev pub inside_row_on : Rows → InsideKey → Option InsideRow
inside_row_on rows e = option_map
    (λ card. let r : InsideRow = record { room = e.0; card = e.1; party = card.party } in r) (card_at rows e.1)

-- The cards inside rooms, by room and card.
abbrev pub cards_inside_on : Rows → List InsideRow
cards_inside_on rows = filter_map (inside_row_on rows) rows.inside

-- Booked stays, by party.
abbrev pub bookings_on : Rows → List Stay
bookings_on rows = filter is_booking (values_of rows.stays)

-- how many bookings of a kind for so many nights from a day on wouldn't be refused for these nights, one after another
abbrev pub free_on : Rows → List ℕ → ℕ → ℕ → ℕ
free_on rows kind d n = if are_ahead rows.day d n
    then rooms_of_kind rows.rooms kind - greatest (nights_taken (values_of rows.stays) kind) d n else 0

-- the row of a kind, for so many nights from a day on
abbrev pub free_row_on : Rows → ℕ → ℕ → List ℕ → FreeRow
free_row_on rows d n kind =
    record { kind = kind; rooms = rooms_of_kind rows.rooms kind; free = free_on rows kind d n }

-- Kinds with their rooms, and what is free of them for so many nights from a day on, by kind.
abbrev pub availability_on : Rows → ℕ → ℕ → List FreeRow
availability_on rows d n = map (free_row_on rows d n) rows.kinds

-- Cards that a party was given, by number.
abbrev pub cards_given_on : Rows → ℕ → List Card
cards_given_on rows party = filter (λ card. card.party == party) (values_of rows.cards)

-- The card of a number with its party's guest.
abbrev pub card_rows_on : Rows → ℕ → List CardRow
card_rows_on rows number = said_of (card_at rows number) []
    (λ card. said_of (stay_at rows card.party) [] (λ stay. card_row card stay ∷ []))

-- so many notes have a last one
abbrev pub is_count : ℕ → Bool
is_count count = nat_le 1 count && nat_le count LAST_NUMBER

-- the note of a room's present lock that has a count
abbrev pub counted_note : Rows → RoomRow → ℕ → Option Note
counted_note rows row count = if is_count count then note_at rows row.room row.fit count else None

-- the row of a room's present lock, of which so many notes were taken
abbrev pub lock_row_by : Rows → RoomRow → ℕ → LockRow
lock_row_by rows row count = record {
  room = row.room;
  fit = row.fit;
  count = count;
  at = option_map moment_of (counted_note rows row count);
}

-- the row of a room's present lock
abbrev pub lock_row_on : Rows → RoomRow → LockRow
lock_row_on rows row = lock_row_by rows row (row.notes - row.before)

-- the row of the present lock of a room that is there
abbrev pub lock_at : Rows → ℕ → Option LockRow
lock_at rows room = option_map (lock_row_on rows) (room_at rows room)

-- the numbers of all rooms
abbrev pub room_numbers : Rows → List ℕ
room_numbers rows = map (λ row. row.room) (values_of rows.rooms)

-- The present locks of all rooms, by room.
abbrev pub locks_on : Rows → List LockRow
locks_on rows = filter_map (lock_at rows) (room_numbers rows)
