-- Stays: their numbers, guests, days and rooms.
use Rattle.std.proofs.Common.{ℕ, ◌≡◌, ◌+◌, true, false, Option, Some, None, refl, ap, ◌∙◌, ◌==◌, ◌&&◌, nat_le, nat_lt}
use Rattle.std.proofs.Common.{nat_cmp}
use Rattle.hotel_model.proofs.Names.{nat_cmp_total, Stay, RoomRow, said_of, is_that, at_number, Reserved, History}
use Rattle.hotel_model.proofs.Names.{stays, rows_of, room_of_state, room_of, Reached, is_day, stay_numbers, guests_read}
use Rattle.hotel_model.proofs.Names.{stay_days, has_party, stay_rooms}
use Rattle.hotel_nights.specs.Guests.{is_guest}
use Rattle.hotel_model.proofs.{OfTables.Tests.eq_from, OfTables.Tests.eq_self, Invariants.EventRanges.last_in_range}
use Rattle.hotel_model.proofs.{Invariants.Numbering.stays_count}
use Rattle.hotel_model.proofs.{Invariants.NumbersLeft.stays_fit, OfTables.RoomNumbers.room_there}
use Rattle.hotel_model.proofs.{Invariants.InHouse.registered_in_house, Invariants.HomeRooms.home_is_room}
use Rattle.hotel_model.proofs.{OfTables.RowTests.both, OfTables.RowTests.all_found, OfTables.RowTests.found_passes}
use Rattle.hotel_model.proofs.{SoundRows.RowsPass.stays_pass}
use Rattle.hotel_model.proofs.{SoundRows.SoundKeys.stays_in_order, OfTables.Tests.le_tested, OfTables.Tests.lt_tested}
use Rattle.hotel_model.proofs.{Starts.StartNumbers.stays_numbered_at_start}

-- the stay of a number has it
pub stay_has_number : (h : History) → Reached h → (p : ℕ) (stay : Stay)
    → at_number (stays h) p ≡ Some stay → stay.party ≡ p
stay_has_number h ok p stay e =
    let all = stays_pass (λ h e. e.1.party == e.0) (λ h event x ok t. t) (λ s ok. (stays_numbered_at_start s ok).0)
    (λ h x s t. t) (λ h party guest kind arrive depart ok. eq_self party) h ok in
    eq_from stay.party p (found_passes (λ (x : ℕ × Stay). x.1.party == x.0) (stays h) p stay all e)

-- Stays are numbered from 1 on.
pub stays_numbered : (h : History) → Reached h → stay_numbers (rows_of h) ≡ true
stays_numbered h ok =
    both _ _
    (both _ _ (stays_pass (λ h e. e.1.party == e.0) (λ h event x ok t. t) (λ s ok. (stays_numbered_at_start s ok).0)
    (λ h x s t. t) (λ h party guest kind arrive depart ok. eq_self party) h ok) (stays_count h ok))
    (le_tested _ _ (stays_fit h ok))

-- Each guest reads as a guest's name.
pub guests_are_read : (h : History) → Reached h → guests_read (rows_of h) ≡ true
guests_are_read h ok =
    stays_pass (λ h e. is_guest e.1.guest) (λ h event x ok t. t) (λ s ok. ok.stay_guest) (λ h x s t. t)
    (λ h party guest kind arrive depart ok. (last_in_range h (Reserved party guest kind arrive depart) ok).0) h ok

-- The days of each stay are in range.
pub days_fit : (h : History) → Reached h → stay_days (rows_of h) ≡ true
days_fit h ok =
    stays_pass (λ h e. is_day e.1.depart && nat_lt e.1.arrive e.1.depart && nat_le e.1.depart (e.1.arrive + 90))
    (λ h event x ok t. t) (λ s ok. ok.stay_day) (λ h x s t. t)
    (λ h party guest kind arrive depart ok.
    let n = last_in_range h (Reserved party guest kind arrive depart) ok in
    both _ _ (both _ _ (le_tested depart 36524 n.3) (lt_tested arrive depart n.1)) (le_tested depart (arrive + 90) n.2))
    h ok

room_tested : (h : History) → Reached h → (p : ℕ) (stay : Stay) → at_number (stays h) p ≡ Some stay → (o : Option ℕ)
    → room_of_state stay.state ≡ o → said_of o true (has_party (rows_of h) stay.party) ≡ true
room_tested h ok p stay e None home = refl
room_tested h ok p stay e (Some r) home =
    let at_home : room_of h p ≡ Some r = ap (λ o. said_of o None (λ (x : Stay). room_of_state x.state)) e ∙ home in
    let there = room_there h r (home_is_room h p r ok at_home) in
    ap (λ o. said_of o false (λ (row : RoomRow). is_that row.party stay.party)) there.2
    ∙ ap (λ o. is_that o stay.party) ((registered_in_house h ok r p).1 at_home)
    ∙ ap (λ z. p == z) (stay_has_number h ok p stay e) ∙ eq_self p

-- The room of a stay in house has its party.
pub rooms_of_stays : (h : History) → Reached h → stay_rooms (rows_of h) ≡ true
rooms_of_stays h ok =
    all_found nat_cmp nat_cmp_total (λ (e : ℕ × Stay). said_of (room_of_state e.1.state) true
    (has_party (rows_of h) e.1.party)) (stays h) (stays_in_order h ok)
    (λ p stay e. room_tested h ok p stay e (room_of_state stay.state) refl)
