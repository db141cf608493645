-- What an accepted event needs of the history before it. A consequence of the answers, for proofs.
use Rattle.std.proofs.Common.{ℕ, ◌≡◌, ◌⊎◌, Bool, true, false, List, Some, None, ◌+◌, nat_lt, [], ◌∷◌, ◌==◌, length}
use Rattle.hotel_model.proofs.Names.{is_one_of, Event, Begun, Kind, Install, Reserved, Cancelled, Issue, Spare}
use Rattle.hotel_model.proofs.Names.{CheckOut, NextDay, Entered, Left, Recoded, Refitted, notes_of, present_fit}
use Rattle.hotel_model.proofs.Names.{History, ◌▷◌, rows_of, made, change_of, is_fresh, awaited, inside, first_full}
use Rattle.hotel_model.proofs.Names.{is_begun, today, is_kind, is_room, is_party, is_booked, is_in_house, is_of_kind}
use Rattle.hotel_model.proofs.Names.{is_taken, room_of, is_card, has_link, opens, next_card, next_party, stay_is}
use Rattle.hotel_model.proofs.Names.{is_standing}
use Rattle.hotel_model.specs.Cases.{holds}

-- the party is booked, or in house
abbrev pub stays_now : History → ℕ → Bool
stays_now h party = stay_is h party (λ stay. is_standing stay.state)

-- this is so, or the party is in house at the room
abbrev pub OrAtHome : History → ℕ → ℕ → Type 0 → Type 0
OrAtHome h party room P = P ⊎ (room_of h party ≡ Some room)

abbrev pub MayFollow : History → Event → Type 0
MayFollow h (Begun day) = is_begun h ≡ false
MayFollow h (Kind kind) = (is_begun h ≡ true) × (is_kind h kind ≡ false)
MayFollow h (Install room kind code) = (is_kind h kind ≡ true) × (is_room h room ≡ false) × (is_fresh h code ≡ true)
MayFollow h (Reserved party guest kind arrive depart) = (is_kind h kind ≡ true) × (party ≡ next_party h) × (nights : ℕ)
    × (depart ≡ arrive + nights) × (first_full h kind arrive nights ≡ None)
MayFollow h (Cancelled party) = (is_party h party ≡ true) × (is_booked h party ≡ true)
MayFollow h (Issue party room number code) =
    OrAtHome h party room (is_room h room ≡ true) × (is_party h party ≡ true) × (stays_now h party ≡ true)
    × OrAtHome h party room (is_of_kind h room party ≡ true)
    × OrAtHome h party room (is_taken h room ≡ false) × (number ≡ next_card h) × (is_fresh h code ≡ true)
MayFollow h (Spare party number) = (is_party h party ≡ true) × (is_in_house h party ≡ true) × (number ≡ next_card h)
MayFollow h (CheckOut party) = (is_party h party ≡ true) × (is_in_house h party ≡ true)
MayFollow h NextDay = (is_begun h ≡ true) × (nat_lt (today h) 36524 ≡ true)
MayFollow h (Refitted room fit code) =
    (is_room h room ≡ true) × (is_taken h room ≡ false) × (fit ≡ present_fit h room + 1) × (is_fresh h code ≡ true)
MayFollow h (Entered room fit count number link at) =
    (count ≡ length (notes_of h room fit) + 1) × (is_room h room ≡ true) × (is_card h number ≡ true)
    × (has_link h number link ≡ true) × (opens h room link ≡ true) × (fit ≡ present_fit h room)
MayFollow h (Left room fit count number link at) =
    (count ≡ length (notes_of h room fit) + 1) × (is_room h room ≡ true) × (is_card h number ≡ true)
    × (has_link h number link ≡ true) × (is_one_of number (inside h room) ≡ true) × (fit ≡ present_fit h room)
MayFollow h (Recoded room fit count from to at) = (count ≡ length (notes_of h room fit) + 1) × (is_room h room ≡ true)
    × (holds h room from ≡ true) × (is_one_of to (awaited h room) ≡ true) × (fit ≡ present_fit h room)

-- The event's change makes the rows of the grown history.
abbrev pub FollowsBy : History → Event → Type 0
FollowsBy h event = rows_of (h ▷ event) ≡ made (change_of h event) (rows_of h)

-- the number is none of these rooms
abbrev pub ApartFrom : ℕ → List (ℕ × List ℕ) → Type 0
ApartFrom room [] = Unit {0}
ApartFrom room (e ∷ es) = ((e.0 == room) ≡ false) × ApartFrom room es

-- no room stands twice
abbrev pub RoomsOnce : List (ℕ × List ℕ) → Type 0
RoomsOnce [] = Unit {0}
RoomsOnce (e ∷ es) = ApartFrom e.0 es × RoomsOnce es
