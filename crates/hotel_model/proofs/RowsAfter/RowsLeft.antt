-- The rows after a party left for good, and after it was given a card of a new code at a room.
use Rattle.std.proofs.Common.{ℕ, ◌≡◌, true, false, Option, Some, None, List, refl, ap, sym, ◌∙◌, length, ◌==◌}
use Rattle.std.proofs.Common.{nat_cmp}
use Rattle.hotel_model.proofs.Names.{insert_entry, RoomRow, when, and_last, said_of, Issue, CheckOut, History, ◌▷◌}
use Rattle.hotel_model.proofs.Names.{issued, all_issued, registered, secured, rooms, room_row, rows_of, is_room}
use Rattle.hotel_model.proofs.Names.{is_in_house, room_of, Reached, room_changed, without_party, freed_by, other_than}
use Rattle.hotel_model.proofs.{Facts.Follow.FollowsBy, RowsAfter.RowsRooms.rows_by, RowsAfter.RowsRooms.one_changed}
use Rattle.hotel_model.proofs.{RowsAfter.RowsRooms.length_more}
use Rattle.hotel_model.proofs.{OfTables.Numbered.true_is_not_false, OfTables.RoomNumbers.rooms_once}
use Rattle.hotel_model.proofs.{RowsAfter.RowsIssue.came_to, RowsAfter.RowsIssue.codes_said}
use Rattle.hotel_model.proofs.{Invariants.Homes.itself_leaves, Invariants.Homes.not_leaving}
use Rattle.hotel_model.proofs.{Invariants.Homes.others_stay, Invariants.Homes.stays_on, Invariants.InHouse.homes_match}
use Rattle.hotel_model.proofs.{OfTables.Tests.eq_self, OfTables.Tests.some_there}

-- the room of a party in house
pub home_there : (h : History) (party : ℕ) → is_in_house h party ≡ true → (room : ℕ) × (room_of h party ≡ Some room)
home_there h party t = some_there (room_of h party) t

two_homes : {a b : ℕ} {o : Option ℕ} → o ≡ Some a → o ≡ Some b → a ≡ b
two_homes e f = cc

-- a room's row without a party that leaves
abbrev pub row_without : History → ℕ → ℕ → List ℕ → RoomRow
row_without h party r kind = record (room_row h r kind) { party = other_than party (registered h r) }

-- The rows of rooms without a party that leaves its room.
pub left_room : (h : History) (party home : ℕ) → Reached h → room_of h party ≡ Some home
    → rows_by (row_without h party) (rooms h) ≡ without_party home (rows_of h).rooms
left_room h party home ok e =
    let m = homes_match h ok in
    one_changed (row_without h party) (room_row h) (λ row. record row { party = None }) home
    (λ r k t. ap (λ p. record (room_row h r k) { party = p })
    (not_leaving party (registered h r)
    (λ s. true_is_not_false (ap (λ z. home == z) (sym (two_homes e (m.forth r party s))) ∙ eq_self home) t)))
    (λ k. ap (λ p. record (room_row h home k) { party = p })
    (ap (other_than party) (m.back home party e) ∙ itself_leaves party))
    (rooms h) (rooms_once h ok)

-- a party leaves for good
pub check_out_follows : (h : History) (party : ℕ)
    → Reached h → is_in_house h party ≡ true → FollowsBy h (CheckOut party)
check_out_follows h party ok t =
    let home = home_there h party t in
    ap (λ rs. record (rows_of (h ▷ CheckOut party)) { rooms = rs })
    (left_room h party home.0 ok home.1
    ∙ ap (λ o. without_party (said_of o 0 (λ room. room)) (rows_of h).rooms) (sym home.1))

-- the row of the room to which a party comes
row_came : (h : History) (party room number code : ℕ) (k : List ℕ)
    → room_row (h ▷ Issue party room number code) room k ≡ came_to party (room_row h room k)
row_came h party room number code k =
    ap (λ b. record (room_row h room k) {
      codes = length (when b (and_last code) (issued h room));
      secured = when b (λ _. false) (secured h room);
      party = when b (λ _. Some party) (other_than party (registered h room));
    }) (eq_self room) ∙ ap (λ n. record (room_row h room k) { codes = n; secured = false; party = Some party })
    (length_more (issued h room) code)

-- and that of another one
row_left : (h : History) (party room number code r : ℕ) (k : List ℕ)
    → (room == r) ≡ false → room_row (h ▷ Issue party room number code) r k ≡ row_without h party r k
row_left h party room number code r k t =
    ap (λ b. record (room_row h r k) {
      codes = length (when b (and_last code) (issued h r));
      secured = when b (λ _. false) (secured h r);
      party = when b (λ _. Some party) (other_than party (registered h r));
    }) t

not_other : (room r : ℕ) (o : Option ℕ) → o ≡ Some r → other_than room o ≡ None → (room == r) ≡ false → ⊥
not_other room r o e n t =
    let w : ◌≡◌ {A = Option ℕ} (Some r) None = sym (others_stay room r t) ∙ ap (other_than room) (sym e) ∙ n in cc

-- the rows of rooms after a party came to one, by the room that it left
rooms_by : (o : Option ℕ) (h : History) (party room number code : ℕ) → Reached h → other_than room (room_of h party) ≡ o
    → rows_by (room_row (h ▷ Issue party room number code)) (rooms h)
    ≡ room_changed room (came_to party) (freed_by o (rows_of h).rooms)
rooms_by None h party room number code ok e =
    one_changed (room_row (h ▷ Issue party room number code)) (room_row h) (came_to party) room
    (λ r k t. row_left h party room number code r k t
    ∙ ap (λ p. record (room_row h r k) { party = p }) (not_leaving party (registered h r)
    (λ s. not_other room r (room_of h party) ((homes_match h ok).forth r party s) e t)))
    (row_came h party room number code) (rooms h) (rooms_once h ok)
rooms_by (Some home) h party room number code ok e =
    one_changed (room_row (h ▷ Issue party room number code)) (row_without h party) (came_to party) room
    (row_left h party room number code) (row_came h party room number code) (rooms h) (rooms_once h ok)
    ∙ ap (λ rs. room_changed room (came_to party) rs)
    (left_room h party home ok (stays_on room (room_of h party) home e).0)

-- a party comes to a room
pub issue_follows : (h : History) (party room number code : ℕ)
    → Reached h → is_room h room ≡ true → FollowsBy h (Issue party room number code)
issue_follows h party room number code ok there =
    let h' : History = h ▷ Issue party room number code in
    let left : Option ℕ = other_than room (room_of h party) in
    ap (λ rs. record (rows_of h') { rooms = rs }) (rooms_by left h party room number code ok refl)
    ∙ ap (λ place. record (rows_of h') {
      rooms = room_changed room (came_to party) (freed_by left (rows_of h).rooms);
      codes = insert_entry nat_cmp (all_issued h) code (record { room = room; place = place });
    }) (sym (codes_said h room there))
