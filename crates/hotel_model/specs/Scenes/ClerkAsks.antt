-- The scenario "clerk-asks": what day it is, what is free, what is booked, how the rooms stand and who is inside; whose
-- a card is, and which notes of the locks were taken, also of a room's second lock.
use Rattle.std.specs.Prelude.{List, [], ◌∷◌, Some, None, true, false, codes}
use Rattle.keycard_rules.specs.declared.note.TheConstants.{LAST_DAY}
use Rattle.hotel_nights.specs.declared.stay.StayState.TheVariants.{Booked}
use Rattle.hotel_model.specs.Scenes.Words.{may, a0, a1, a2, a3, b0, DBL, SGL, bo, begin, add_kind, add_room, reserve}
use Rattle.hotel_model.specs.Scenes.Words.{check_in, spare, refit, check_out, next_day, entered, entered_by, left}
use Rattle.hotel_model.specs.Scenes.Words.{begun, kind_added, room_code, party, card, lock, day, taken, seen}
use Rattle.hotel_model.specs.Scenes.Words.{checked_out, status, free, card_of, lock_noted}
use Rattle.hotel_model.specs.Scenes.Lines.{Line, ◌⇒◌, BusinessDay, RoomStatus, Inside, Bookings, Availability, Cards}
use Rattle.hotel_model.specs.Scenes.Lines.{OneCard, Locks, Holds}

abbrev pub lines : List Line
lines =
    BusinessDay []
    ∷ Cards 1 []
    ∷ OneCard 1 []
    ∷ Locks []
    ∷ begin (may 1) ⇒ begun
    ∷ BusinessDay (may 1 ∷ [])
    ∷ add_kind DBL ⇒ kind_added
    ∷ add_kind SGL ⇒ kind_added
    ∷ add_room 101 DBL ⇒ room_code a0
    ∷ Availability (may 1) 2 (free DBL 1 1 ∷ free SGL 0 0 ∷ [])
    ∷ reserve DBL (may 2) 1 (codes "Ann") ⇒ party 1
    ∷ Availability (may 1) 2 (free DBL 1 0 ∷ free SGL 0 0 ∷ [])
    ∷ Availability (may 1) 1 (free DBL 1 1 ∷ free SGL 0 0 ∷ [])
    ∷ Availability (may 0) 1 (free DBL 1 0 ∷ free SGL 0 0 ∷ [])
    ∷ Availability LAST_DAY 1 (free DBL 1 0 ∷ free SGL 0 0 ∷ [])
    ∷ Bookings (record {
      party = 1;
      guest = codes "Ann";
      kind = DBL;
      arrive = may 2;
      depart = may 3;
      state = Booked;
    } ∷ [])
    ∷ next_day ⇒ day (may 2)
    ∷ check_in 1 101 ⇒ card 1 1 a0 a1
    ∷ OneCard 1 (record { card = card_of 1 1 a0 a1; guest = codes "Ann" } ∷ [])
    ∷ OneCard 2 []
    ∷ Cards 1 (card_of 1 1 a0 a1 ∷ [])
    ∷ Cards 2 []
    ∷ Locks (lock_noted 101 1 0 None ∷ [])
    ∷ Bookings []
    ∷ Availability (may 2) 1 (free DBL 1 0 ∷ free SGL 0 0 ∷ [])
    ∷ RoomStatus (status 101 (Some 1) false 1 ∷ [])
    ∷ entered 101 1 1 a0 a1 (may 2, 54000) ⇒ taken
    ∷ RoomStatus (status 101 (Some 1) true 0 ∷ [])
    ∷ Inside (record { room = 101; card = 1; party = 1 } ∷ [])
    ∷ Locks (lock_noted 101 1 1 (Some (may 2, 54000)) ∷ [])
    ∷ check_out 1 ⇒ checked_out
    ∷ OneCard 1 (record { card = card_of 1 1 a0 a1; guest = codes "Ann" } ∷ [])
    ∷ RoomStatus (status 101 None true 0 ∷ [])
    ∷ Inside (record { room = 101; card = 1; party = 1 } ∷ [])
    ∷ left 101 2 1 a0 a1 (may 2, 57600) ⇒ taken
    ∷ Locks (lock_noted 101 1 2 (Some (may 2, 57600)) ∷ [])
    ∷ refit 101 ⇒ lock 2 a2
    ∷ Locks (lock_noted 101 2 0 None ∷ [])
    ∷ reserve DBL (may 2) 1 bo ⇒ party 2
    ∷ check_in 2 101 ⇒ card 2 2 a2 a3
    ∷ spare 2 ⇒ card 3 2 a2 a3
    ∷ entered_by 101 2 1 3 a2 a3 (may 2, 61200) ⇒ taken
    ∷ left 101 2 1 a0 a1 (may 2, 57600) ⇒ seen
    ∷ add_room 102 SGL ⇒ room_code b0
    ∷ Locks (lock_noted 101 2 1 (Some (may 2, 61200)) ∷ lock_noted 102 1 0 None ∷ [])
    ∷ Cards 1 (card_of 1 1 a0 a1 ∷ [])
    ∷ Cards 2 (card_of 2 2 a2 a3 ∷ card_of 3 2 a2 a3 ∷ [])
    ∷ OneCard 1 (record { card = card_of 1 1 a0 a1; guest = codes "Ann" } ∷ [])
    ∷ OneCard 3 (record { card = card_of 3 2 a2 a3; guest = bo } ∷ [])
    ∷ OneCard 4 []
    ∷ []

abbrev pub TheScene : Type 0
TheScene = Holds (a0 ∷ a1 ∷ a2 ∷ a3 ∷ []) b0 lines
