-- The rules of sound rows, second part: the stays. Each rule is a test of all rows.
use Rattle.std.specs.Prelude.{ℕ, Bool, true, ◌+◌, ◌==◌, ◌&&◌, nat_le, nat_lt, length}
use Rattle.std.specs.List.{list_all}
use Rattle.std.specs.Map.{keys_of, values_of}
use Rattle.hotel_nights.specs.declared.nights.TheConstants.{MOST_NIGHTS}
use Rattle.keycard_rules.specs.declared.numbers.TheConstants.{LAST_NUMBER}
use Rattle.hotel_nights.specs.declared.stay.Stay.{Stay}
use Rattle.hotel_model.specs.Words.{is_that, said_of}
use Rattle.hotel_model.specs.Rows.{Rows, has_kind, room_is, rooms_of_kind}
use Rattle.hotel_model.specs.Stays.{room_of_state}
use Rattle.hotel_model.specs.SoundRooms.{count_up, is_day}
use Rattle.hotel_nights.specs.FullNight.{nights_taken}
use Rattle.hotel_nights.specs.Guests.{is_guest}

-- the rule holds of each stay
abbrev pub each_stay : Rows → (Stay → Bool) → Bool
each_stay rows rule = list_all (λ (e : ℕ × Stay). rule e.1) rows.stays

-- each row has the number that is its key; the numbers are 1 to n, n at most the last number
abbrev pub stay_numbers : Rows → Bool
stay_numbers rows = list_all (λ (e : ℕ × Stay). e.1.party == e.0) rows.stays && count_up 1 (keys_of rows.stays)
    && nat_le (length rows.stays) LAST_NUMBER

-- each guest reads as a guest's name: 1 to 60 bytes of UTF-8, no control character, no space first or last
abbrev pub guests_read : Rows → Bool
guests_read rows = each_stay rows (λ stay. is_guest stay.guest)

-- each stay's kind is there
abbrev pub stay_kinds_there : Rows → Bool
stay_kinds_there rows = each_stay rows (λ stay. has_kind rows stay.kind)

-- days in range, 1 to MOST_NIGHTS nights
abbrev pub stay_days : Rows → Bool
stay_days rows = each_stay rows (λ stay. is_day stay.depart && nat_lt stay.arrive stay.depart
    && nat_le stay.depart (stay.arrive + MOST_NIGHTS))

-- the room is there, and has this party
abbrev pub has_party : Rows → ℕ → ℕ → Bool
has_party rows party room = room_is rows room (λ row. is_that row.party party)

-- the room of a stay in house has its party
abbrev pub stay_rooms : Rows → Bool
stay_rooms rows = each_stay rows (λ stay. said_of (room_of_state stay.state) true (has_party rows stay.party))

-- on the first night of each stay, its kind isn't taken by more stays than it has rooms
abbrev pub nights_fit : Rows → Bool
nights_fit rows =
    each_stay rows (λ stay.
    nat_le (nights_taken (values_of rows.stays) stay.kind stay.arrive) (rooms_of_kind rows.rooms stay.kind))
