-- The rows of the lists, read off a history.
use Rattle.std.specs.Prelude.{ℕ, Bool, false, List, [], ◌∷◌, ◌++◌, Option, Some, None, ◌+◌, ◌-◌, ◌&&◌, ◌==◌}
use Rattle.std.specs.Prelude.{if◌then◌else◌, nat_le, nat_lt, length, map, filter, filter_map, option_map}
use Rattle.std.specs.List.{last_or}
use Rattle.std.specs.Map.{keys_of, values_of}
use Rattle.keycard_rules.specs.{declared.card.Card.Card, declared.note.TheConstants.LAST_DAY, Note.Note}
use Rattle.hotel_nights.specs.{declared.stay.Stay.Stay, Moments.moment_of}
use Rattle.hotel_model.specs.declared.list_rows.HouseRow.{HouseRow}
use Rattle.hotel_model.specs.declared.list_rows.ChainRow.{ChainRow}
use Rattle.hotel_model.specs.declared.list_rows.BehindRow.{BehindRow}
use Rattle.hotel_model.specs.declared.list_rows.CodeState.{CodeState}
use Rattle.hotel_model.specs.declared.list_rows.CodeState.TheVariants.{Passed, Held, Awaited}
use Rattle.hotel_model.specs.declared.list_rows.StatusRow.{StatusRow}
use Rattle.hotel_model.specs.declared.list_rows.InsideRow.{InsideRow}
use Rattle.hotel_model.specs.declared.list_rows.FreeRow.{FreeRow}
use Rattle.hotel_model.specs.declared.list_rows.CardRow.{CardRow}
use Rattle.hotel_model.specs.declared.list_rows.LockRow.{LockRow}
use Rattle.hotel_model.specs.Words.{said_of, greatest}
use Rattle.hotel_model.specs.Rows.{InsideKey, at_number}
use Rattle.hotel_model.specs.History.{History}
use Rattle.hotel_model.specs.Issued.{current}
use Rattle.hotel_model.specs.Cards.{cards}
use Rattle.hotel_model.specs.Lock.{held}
use Rattle.hotel_model.specs.Ledger.{passed, awaited}
use Rattle.hotel_model.specs.Guests.{registered, insiders, secured}
use Rattle.hotel_model.specs.Stays.{day, kinds, rooms, stays, is_booked_state, nights, rooms_of}
use Rattle.hotel_model.specs.{Notes.notes_of, Refits.present_fit}

-- a booked stay that takes the night of a day
abbrev pub arrives_on : ℕ → Stay → Bool
arrives_on day stay = is_booked_state stay.state && nat_le stay.arrive day && nat_lt day stay.depart

-- Booked stays that take the night of a day, by party.
abbrev pub arrivals : History → ℕ → List Stay
arrivals h day = filter (arrives_on day) (values_of (stays h))

-- the row of a stay at a room
abbrev pub house_row_of : History → ℕ → Stay → HouseRow
house_row_of h room stay = record {
  room = room;
  party = stay.party;
  guest = stay.guest;
  kind = stay.kind;
  depart = stay.depart;
  secured = secured h room;
}

-- the row of a room's party, where one is registered there
abbrev pub house_row : History → ℕ → Option HouseRow
house_row h room = said_of (registered h room) None (λ party. said_of (at_number (stays h) party) None
    (λ stay. Some (house_row_of h room stay)))

-- Rooms with a registered party, by room.
abbrev pub in_house : History → List HouseRow
in_house h = filter_map (house_row h) (keys_of (rooms h))

-- the codes with their places from one place on, all in one state
abbrev pub in_places : ℕ → CodeState → List ℕ → List ChainRow
in_places place state [] = []
in_places place state (code ∷ codes) =
    record { place = place; code = code; state = state } ∷ in_places (place + 1) state codes

-- A room's codes with their places and states: the passed ones, the one held, the awaited ones.
abbrev pub chain : History → ℕ → List ChainRow
chain h room = in_places 0 Passed (passed h room) ++ in_places (length (passed h room)) Held (held h room ∷ [])
    ++ in_places (length (passed h room) + 1) Awaited (awaited h room)

-- the row of a room, where two codes or more are awaited
abbrev pub behind_row : History → ℕ → Option BehindRow
behind_row h room = if nat_le 2 (length (awaited h room)) then Some
    (record { room = room; held = held h room; current = current h room; awaited = length (awaited h room) }) else None

-- Rooms with two awaited codes or more, by room.
abbrev pub left_behind : History → List BehindRow
left_behind h = filter_map (behind_row h) (keys_of (rooms h))

-- The business day, once it is set.
abbrev pub business_day : History → List ℕ
business_day h = said_of (day h) [] (λ d. d ∷ [])

-- the row of a room of a kind
abbrev pub status_row : History → ℕ → List ℕ → StatusRow
status_row h room kind = record {
  room = room;
  kind = kind;
  party = registered h room;
  secured = secured h room;
  awaited = length (awaited h room);
}

-- All rooms, by room.
abbrev pub room_status : History → List StatusRow
room_status h = map (λ e. status_row h e.0 e.1) (rooms h)

-- the row of a card inside a room, with the party that it was given to
abbrev pub inside_row : History → InsideKey → Option InsideRow
inside_row h e = option_map
    (λ card. let r : InsideRow = record { room = e.0; card = e.1; party = card.party } in r) (at_number (cards h) e.1)

-- The cards inside rooms, by room and card.
abbrev pub cards_inside : History → List InsideRow
cards_inside h = filter_map (inside_row h) (insiders h)

-- a booked stay: not in house, done or cancelled
abbrev pub is_booking : Stay → Bool
is_booking stay = is_booked_state stay.state

-- Booked stays, by party.
abbrev pub bookings : History → List Stay
bookings h = filter is_booking (values_of (stays h))

-- so many nights from a day on can be booked, if rooms are left: a business day is set, the nights begin on it or
-- later, and the departure is in the calendar
abbrev pub are_ahead : Option ℕ → ℕ → ℕ → Bool
are_ahead today d n = said_of today false (λ t. nat_le t d && nat_le (d + n) LAST_DAY)

-- Free: how many bookings of a kind for so many nights from a day on wouldn't be refused for these nights, one after
-- the other. They are the kind's rooms less the most stays, booked and in house, that take one of these nights.
abbrev pub free : History → List ℕ → ℕ → ℕ → ℕ
free h kind d n = if are_ahead (day h) d n then rooms_of h kind - greatest (nights h kind) d n else 0

-- the row of a kind, for so many nights from a day on
abbrev pub free_row : History → ℕ → ℕ → List ℕ → FreeRow
free_row h d n kind = record { kind = kind; rooms = rooms_of h kind; free = free h kind d n }

-- Kinds with their rooms, and what is free of them for so many nights from a day on, by kind.
abbrev pub availability : History → ℕ → ℕ → List FreeRow
availability h d n = map (free_row h d n) (kinds h)

-- Cards that a party was given, by number.
abbrev pub cards_given : History → ℕ → List Card
cards_given h party = filter (λ card. card.party == party) (values_of (cards h))

-- a card with the guest of its party's stay
abbrev pub card_row : Card → Stay → CardRow
card_row card stay = record { card = card; guest = stay.guest }

-- The card of a number, with the guest of the party that it was given to; none where there is no such card.
abbrev pub card_rows : History → ℕ → List CardRow
card_rows h number = said_of (at_number (cards h) number) []
    (λ card. said_of (at_number (stays h) card.party) [] (λ stay. card_row card stay ∷ []))

-- the row of a room's present lock, which noted these
abbrev pub lock_row_of : History → ℕ → List Note → LockRow
lock_row_of h room its = record {
  room = room;
  fit = present_fit h room;
  count = length its;
  at = option_map moment_of (last_or None its);
}

-- the row of a room's present lock: how many of its notes were taken, and when it noted the last of them
abbrev pub lock_row : History → ℕ → LockRow
lock_row h room = lock_row_of h room (notes_of h room (present_fit h room))

-- The present locks of all rooms, by room.
abbrev pub locks : History → List LockRow
locks h = map (lock_row h) (keys_of (rooms h))
