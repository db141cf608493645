-- What a room's row says, and the next numbers.
use Rattle.std.proofs.Common.{ℕ, ◌≡◌, ◌+◌, ◌-◌, Bool, true, false, cond, Option, Some, None, List, refl, ap, sym, ◌∙◌}
use Rattle.std.proofs.Common.{arith, length, option_map, is_none, is_some, nat_lt, nat_le, bytes_eq}
use Rattle.hotel_model.proofs.Names.{nat_tests, Stay, said_of, is_that, at_number, History, issued, link_to, passed}
use Rattle.hotel_model.proofs.Names.{secured, stays, rooms, room_row, rows_of, is_room, is_of_kind, is_taken, is_home}
use Rattle.hotel_model.proofs.Names.{number_after, codes_of, room_is, kinds_agree_on, lock_place_of, secured_on}
use Rattle.hotel_model.proofs.Names.{present_fit, present_fit_on, said_code_at, link_on}
use Rattle.hotel_model.proofs.{OfTables.RoomNumbers.room_found, OfTables.RoomNumbers.room_there}
use Rattle.hotel_model.proofs.{Lifted.LiftFacts.CurrentFound}

none_after : (b c : Bool) (n : ℕ) → (b ≡ true → c ≡ false) → (b ≡ false → c ≡ true) → is_none (cond b (Some n) None) ≡ c
none_after true c n f g = sym (f refl)
none_after false c n f g = sym (g refl)

-- no number is after 9,999,999
pub last_number : (n : ℕ) → is_none (number_after n) ≡ nat_le 9999999 n
last_number n = none_after (nat_lt n 9999999) (nat_le 9999999 n) (n + 1) (λ t. grind (arith, nat_tests))
    (λ t. grind (arith, nat_tests))

-- how many codes the row of a room says
pub codes_said : (h : History) (room : ℕ) → is_room h room ≡ true → codes_of (rows_of h) room ≡ length (issued h room)
codes_said h room e = ap (λ o. said_of o 0 (λ row. row.codes)) (room_there h room e).2

-- at which place the row of a room says that the lock stands
pub place_said : (h : History) (room : ℕ)
    → is_room h room ≡ true → lock_place_of (rows_of h) room ≡ length (passed h room)
place_said h room e = ap (λ o. said_of o 0 (λ row. row.lock_place)) (room_there h room e).2

pub fit_said : (h : History) (room : ℕ) → is_room h room ≡ true → present_fit_on (rows_of h) room ≡ present_fit h room
fit_said h room e = ap (λ o. said_of o 0 (λ row. row.fit)) (room_there h room e).2

pub secured_said : (h : History) (room : ℕ) → is_room h room ≡ true → secured_on (rows_of h) room ≡ secured h room
secured_said h room e = ap (λ o. said_of o false (λ row. row.secured)) (room_there h room e).2

pub taken_said : (h : History) (room : ℕ)
    → is_room h room ≡ true → room_is (rows_of h) room (λ row. is_some row.party) ≡ is_taken h room
taken_said h room e = ap (λ o. said_of o false (λ row. is_some row.party)) (room_there h room e).2

pub home_said : (h : History) (room party : ℕ)
    → is_room h room ≡ true → room_is (rows_of h) room (λ row. is_that row.party party) ≡ is_home h room party
home_said h room party e = ap (λ o. said_of o false (λ row. is_that row.party party)) (room_there h room e).2

kind_by : (h : History) (room : ℕ) (o : Option (List ℕ)) (s : Option Stay) → said_of s false (λ stay. said_of
    (option_map (λ kind. room_row h room kind) o) false (λ row. bytes_eq row.kind stay.kind))
    ≡ said_of s false (λ stay. said_of o false (λ kind. bytes_eq kind stay.kind))
kind_by h room None s = refl
kind_by h room (Some kind) s = refl

-- the row's kind is the room's
pub kind_said : (h : History) (room party : ℕ) → kinds_agree_on (rows_of h) room party ≡ is_of_kind h room party
kind_said h room party =
    ap (λ o. said_of (at_number (stays h) party) false (λ stay. said_of o false (λ row. bytes_eq row.kind stay.kind)))
    (room_found h room)
    ∙ kind_by h room (at_number (rooms h) room) (at_number (stays h) party)

-- the link that a new code makes has the room's current code
pub link_said : (h : History) (room code : ℕ)
    → CurrentFound h → is_room h room ≡ true → link_on (rows_of h) room code ≡ link_to h room code
link_said h room code found e =
    ap (λ n. record (link_to h room code) { old_code = said_code_at (rows_of h) room (n - 1) }) (codes_said h room e)
    ∙ ap (λ o. record (link_to h room code) { old_code = said_of o 0 (λ c. c) }) (found room e)
