-- What the lifts of commands need: what look-ups of codes find in the rows of a history.
use Rattle.std.proofs.Common.{ℕ, ◌≡◌, ◌+◌, ◌-◌, ◌==◌, true, Some, length}
use Rattle.hotel_model.proofs.Names.{Link, is_one_of, Moment, Entered, Recoded, History, ◌▷◌, issued, current}
use Rattle.hotel_model.proofs.Names.{link_of_party, registered, held, passed, awaited, rows_of, is_room, room_of}
use Rattle.hotel_model.proofs.Names.{is_card, has_link, opens, code_at, place_on, is_awaited_on, home_link_on}
use Rattle.hotel_model.specs.Cases.{holds}

-- the code that a room's lock holds stands after those that it passed
abbrev pub HeldFound : History → Type 0
HeldFound h = (r : ℕ) → is_room h r ≡ true → code_at (rows_of h) r (length (passed h r)) ≡ Some (held h r)

-- a room's current code stands last
abbrev pub CurrentFound : History → Type 0
CurrentFound h = (r : ℕ) → is_room h r ≡ true → code_at (rows_of h) r (length (issued h r) - 1) ≡ Some (current h r)

-- a party in house has the link of its room's last two codes
abbrev pub HomeLink : History → Type 0
HomeLink h = (party room : ℕ)
    → room_of h party ≡ Some room → link_of_party h party ≡ Some (home_link_on (rows_of h) party)

-- a party in house is registered at its room
abbrev pub AtHome : History → Type 0
AtHome h = (room party : ℕ) → room_of h party ≡ Some room → registered h room ≡ Some party

-- after an entry the lock stands at the place of the link's new code
abbrev pub EnteredPlace : History → Type 0
EnteredPlace h = (room fit count number : ℕ) (link : Link) (at : Moment)
    → is_room h room ≡ true → is_card h number ≡ true → has_link h number link ≡ true → opens h room link ≡ true
    → place_on (rows_of h) link.new_code ≡ length (passed (h ▷ Entered room fit count number link at) room)

-- of a card that opens the room, the new code is the current one exactly where it stands last
abbrev pub EnteredCurrent : History → Type 0
EnteredCurrent h = (room number : ℕ) (link : Link)
    → is_room h room ≡ true → is_card h number ≡ true → has_link h number link ≡ true → opens h room link ≡ true
    → (place_on (rows_of h) link.new_code + 1 == length (issued h room)) ≡ (link.new_code == current h room)

-- a code is awaited exactly where it stands at the room after the one that the lock holds
abbrev pub AwaitedFound : History → Type 0
AwaitedFound h = (room code : ℕ)
    → is_room h room ≡ true → is_awaited_on (rows_of h) room code ≡ is_one_of code (awaited h room)

-- after a recoding the lock stands at the place of the code that it was recoded to
abbrev pub RecodedPlace : History → Type 0
RecodedPlace h = (room fit count from to : ℕ) (at : Moment)
    → is_room h room ≡ true → holds h room from ≡ true → is_one_of to (awaited h room) ≡ true
    → place_on (rows_of h) to ≡ length (passed (h ▷ Recoded room fit count from to at) room)

-- What look-ups of codes find.
pub record CodesFound (h : History) : Type 0 where
  pub held : HeldFound h
  pub current : CurrentFound h
  pub awaited : AwaitedFound h
  pub home_link : HomeLink h
  pub entered_place : EnteredPlace h
  pub entered_current : EnteredCurrent h
  pub recoded_place : RecodedPlace h
