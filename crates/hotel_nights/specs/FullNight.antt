-- Nights that stays take, and the first night of a kind that is full.
use Rattle.std.specs.Prelude.{◌≡◌, ◌<◌, ◌≤◌, ℕ, zero, suc, Bool, true, false, ◌&&◌, List, Option, Some, None}
use Rattle.std.specs.Prelude.{if◌then◌else◌, nat_le, nat_lt}
use Rattle.std.specs.Str.{bytes_eq}
use Rattle.std.specs.List.{count_by}
use Rattle.hotel_nights.specs.{declared.stay.Stay.Stay, declared.stay.StayState.StayState}
use Rattle.hotel_nights.specs.declared.stay.StayState.TheVariants.{Booked, InHouse, Done, Cancelled}

-- a stay in this state holds its nights: it is booked or in house
abbrev pub is_standing : StayState → Bool
is_standing Booked = true
is_standing (InHouse room) = true
is_standing Done = false
is_standing Cancelled = false

-- the stay holds its nights, and in a room of the kind
abbrev pub is_of_kind : List ℕ → Stay → Bool
is_of_kind kind stay = is_standing stay.state && bytes_eq stay.kind kind

-- the stay takes the night `d` in a room of the kind: from its arrival on, and not that of its departure
abbrev pub takes : List ℕ → ℕ → Stay → Bool
takes kind d stay = is_of_kind kind stay && (nat_le stay.arrive d && nat_lt d stay.depart)

-- how many stays take the night `d` in rooms of the kind
unfoldable pub nights_taken : List Stay → List ℕ → ℕ → ℕ
nights_taken stays kind d = count_by (takes kind d) stays

-- the night is full: as many stays take it as there are rooms, or more
abbrev pub is_full : List Stay → List ℕ → ℕ → ℕ → Bool
is_full stays kind rooms d = nat_le rooms (nights_taken stays kind d)

-- of so many days from `d` on, the first that passes the test
unfoldable pub first_day : (ℕ → Bool) → ℕ → ℕ → Option ℕ
first_day test d zero = None
first_day test d (suc n) = if test d then Some d else first_day test (suc d) n

-- what the first day is that passes the test, from a day on and before another: it passes, and no earlier one does; or
-- none does
abbrev pub IsFirst : (ℕ → Bool) → ℕ → ℕ → Option ℕ → Type 0
IsFirst test from after None = (d : ℕ) → from ≤ d → d < after → test d ≡ false
IsFirst test from after (Some r) =
    (from ≤ r) × (r < after) × (test r ≡ true) × ((d : ℕ) → from ≤ d → d < r → test d ≡ false)
