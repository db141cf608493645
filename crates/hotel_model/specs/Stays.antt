-- The business day, the kinds and rooms, the stays, and how full the nights are.
use Rattle.std.specs.Prelude.{ℕ, Bool, true, false, List, [], ◌∷◌, Option, Some, None, ◌+◌, ◌==◌, if◌then◌else◌, map}
use Rattle.std.specs.Prelude.{count_by, option_map, bytes_eq}
use Rattle.std.specs.Ordering.{nat_cmp}
use Rattle.std.specs.Cmp.Lexicographic.{slice_cmp}
use Rattle.std.specs.BTreeMap.{insert_entry}
use Rattle.std.specs.BTreeSet.{insert_key}
use Rattle.std.specs.Map.{values_of}
use Rattle.hotel_nights.specs.declared.stay.Stay.{Stay}
use Rattle.hotel_nights.specs.declared.stay.StayState.{StayState}
use Rattle.hotel_nights.specs.declared.stay.StayState.TheVariants as state
use Rattle.hotel_nights.specs.FullNight.{nights_taken, is_full, first_day}
use Rattle.hotel_model.specs.Event.{Begun, Kind, Install, Reserved, Cancelled, Issue, CheckOut, NextDay}
use Rattle.hotel_model.specs.History.{History, start, ◌▷◌}

-- The business day: the one that was set, and one more for each next day.
abbrev pub day : History → Option ℕ
day (start t) = t.day
day (h ▷ Begun first) = Some first
day (h ▷ NextDay) = option_map (λ d. d + 1) (day h)
day (h ▷ _) = day h

-- The kinds of rooms, in order.
abbrev pub kinds : History → List (List ℕ)
kinds (start t) = t.kinds
kinds (h ▷ Kind kind) = insert_key (slice_cmp nat_cmp) (kinds h) kind
kinds (h ▷ _) = kinds h

-- The rooms in the order of their numbers, each with its kind.
abbrev pub rooms : History → List (ℕ × List ℕ)
rooms (start t) = map (λ e. (e.0, e.1.kind)) t.rooms
rooms (h ▷ Install room kind code) = insert_entry nat_cmp (rooms h) room kind
rooms (h ▷ _) = rooms h

-- the stay is booked, and not yet in house, done or cancelled
abbrev pub is_booked_state : StayState → Bool
is_booked_state state.Booked = true
is_booked_state (state.InHouse room) = false
is_booked_state state.Done = false
is_booked_state state.Cancelled = false

-- the room of a stay in house
abbrev pub room_of_state : StayState → Option ℕ
room_of_state state.Booked = None
room_of_state (state.InHouse room) = Some room
room_of_state state.Done = None
room_of_state state.Cancelled = None

-- how a stay stands after a change
abbrev pub now_is : StayState → Stay → Stay
now_is state stay = record {
  party = stay.party;
  guest = stay.guest;
  kind = stay.kind;
  arrive = stay.arrive;
  depart = stay.depart;
  state = state;
}

-- the stays, that of the party in this state
abbrev pub in_state : ℕ → StayState → List (ℕ × Stay) → List (ℕ × Stay)
in_state party state [] = []
in_state party state (e ∷ es) = if e.0 == party then (e.0, now_is state e.1) ∷ es else e ∷ in_state party state es

-- The stays, by the party's number: booked at first, then in house, done or cancelled.
abbrev pub stays : History → List (ℕ × Stay)
stays (start t) = t.stays
stays (h ▷ Reserved party guest kind arrive depart) =
    insert_entry nat_cmp (stays h) party
    (record { party = party; guest = guest; kind = kind; arrive = arrive; depart = depart; state = state.Booked })
stays (h ▷ Cancelled party) = in_state party state.Cancelled (stays h)
stays (h ▷ Issue party room number code) = in_state party (state.InHouse room) (stays h)
stays (h ▷ CheckOut party) = in_state party state.Done (stays h)
stays (h ▷ _) = stays h

-- How many booked and in-house stays of a kind take the night of a day.
abbrev pub nights : History → List ℕ → ℕ → ℕ
nights h kind d = nights_taken (values_of (stays h)) kind d

-- How many rooms a kind has.
abbrev pub rooms_of : History → List ℕ → ℕ
rooms_of h kind = count_by (λ k. bytes_eq k kind) (values_of (rooms h))

-- The first night, of so many from a day on, on which each room of the kind is taken.
abbrev pub first_full : History → List ℕ → ℕ → ℕ → Option ℕ
first_full h kind d n = first_day (is_full (values_of (stays h)) kind (rooms_of h kind)) d n
