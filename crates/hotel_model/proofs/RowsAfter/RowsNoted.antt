-- The rows after a card entered a room, and after staff recoded a lock.
use Rattle.std.proofs.Common.{ℕ, ◌≡◌, ◌+◌, ◌++◌, ◌∷◌, ap, sym, ◌∙◌, length, ◌==◌, ◌&&◌, Bool, true}
use Rattle.hotel_model.proofs.Names.{Link, Note, RoomRow, when, and_last, before, Moment, Entered, Left, Recoded}
use Rattle.hotel_model.proofs.Names.{said_of, before_in, History, ◌▷◌, current, passed, turns, awaited, inside, secured}
use Rattle.hotel_model.proofs.Names.{are_none, notes, rooms, room_row, rows_of, is_room, is_one_of, insiders, moved}
use Rattle.hotel_model.proofs.Names.{comes, insert_entry, pair_cmp, all_notes, notes_before, Reached, room_changed}
use Rattle.hotel_model.proofs.Names.{note_from}
use Rattle.keycard_rules.specs.declared.note.Act.TheVariants as act
use Rattle.hotel_model.proofs.{Facts.Follow.FollowsBy, RowsAfter.RowsRooms.one_changed, RowsAfter.RowsRooms.length_more}
use Rattle.hotel_model.proofs.{OfTables.RoomNumbers.rooms_once, OfTables.RoomNumbers.room_there, Facts.Follow.RoomsOnce}
use Rattle.hotel_model.proofs.{OfTables.Insiders.card_came, OfTables.Tests.eq_self}

-- the row of a room after a note
abbrev pub noted_row : ℕ → Bool → ℕ → RoomRow → RoomRow
noted_row place s count row = record row { lock_place = place; secured = s; notes = row.before + count }

-- how many notes of a room that is there its row says were taken before its present fit
pub before_said : (h : History) (room : ℕ) → is_room h room ≡ true → before_in (rows_of h) room ≡ notes_before h room
before_said h room e = ap (λ o. said_of o 0 (λ row. row.before)) (room_there h room e).2

-- the number of a note by its room's row
pub number_said : (h : History) (room count : ℕ)
    → is_room h room ≡ true → notes_before h room + count ≡ length (notes h room) + 1
    → length (notes h room) + 1 ≡ before_in (rows_of h) room + count
number_said h room count e n = sym n ∙ ap (λ z. z + count) (sym (before_said h room e))

-- a card leaves
pub left_follows : (h : History) (room fit count number : ℕ) (link : Link) (at : Moment)
    → RoomsOnce (rooms h) → is_room h room ≡ true → notes_before h room + count ≡ length (notes h room) + 1
    → FollowsBy h (Left room fit count number link at)
left_follows h room fit count number link at once there n =
    let h' : History = h ▷ Left room fit count number link at in
    let note : Note = note_from room fit count (act.Left number link) at in
    ap (λ rs. record (rows_of h') { rooms = rs })
    (one_changed (room_row h') (room_row h) (noted_row (length (passed h' room)) (secured h' room) count) room
    (λ r k t. ap (λ b. record (room_row h r k) { notes = length (when b (and_last note) (notes h r)) }) t)
    (λ k. ap (λ m. record (room_row h room k) { notes = m })
    (ap (λ b. length (when b (and_last note) (notes h room))) (eq_self room) ∙ length_more (notes h room) note ∙ sym n))
    (rooms h) once)
    ∙ ap (λ k. record (rows_of h') {
      rooms = room_changed room (noted_row (length (passed h' room)) (secured h' room) count) (rows_of h).rooms;
      notes = insert_entry pair_cmp (all_notes h) (room, k) note;
    }) (number_said h room count there n)

-- a card enters
pub entered_follows : (h : History) (room fit count number : ℕ) (link : Link) (at : Moment)
    → Reached h → is_room h room ≡ true → notes_before h room + count ≡ length (notes h room) + 1
    → FollowsBy h (Entered room fit count number link at)
entered_follows h room fit count number link at ok there n =
    let h' : History = h ▷ Entered room fit count number link at in
    let note : Note = note_from room fit count (act.Entered number link) at in
    let c : RoomRow → RoomRow = noted_row (length (passed h' room)) (secured h' room) count in
    ap (λ rs. record (rows_of h') { rooms = rs })
    (one_changed (room_row h') (room_row h) c room
    (λ r k t. ap (λ b. record (room_row h r k) {
      lock_place = length (when (b && turns h room link) (and_last link.old_code) (passed h r));
      secured = when (b && (link.new_code == current h room) && are_none (inside h room)) (λ _. true) (secured h r);
      notes = length (when b (and_last note) (notes h r));
    }) t)
    (λ k. ap (λ m. record (room_row h' room k) { notes = m })
    (ap (λ b. length (when b (and_last note) (notes h room))) (eq_self room) ∙ length_more (notes h room) note ∙ sym n))
    (rooms h) (rooms_once h ok))
    ∙ ap (λ pairs. record (rows_of h') { rooms = room_changed room c (rows_of h).rooms; inside = pairs })
    (card_came h room number ok)
    ∙ ap (λ k. record (rows_of h') {
      rooms = room_changed room c (rows_of h).rooms;
      inside = moved (comes (is_one_of number (inside h room)) number) room (insiders h);
      notes = insert_entry pair_cmp (all_notes h) (room, k) note;
    }) (number_said h room count there n)

-- staff recode a lock
pub recoded_follows : (h : History) (room fit count from to : ℕ) (at : Moment) → Reached h → is_room h room ≡ true
    → notes_before h room + count ≡ length (notes h room) + 1 → FollowsBy h (Recoded room fit count from to at)
recoded_follows h room fit count from to at ok there n =
    let h' : History = h ▷ Recoded room fit count from to at in
    let note : Note = note_from room fit count (act.Recoded from to) at in
    let c : RoomRow → RoomRow = noted_row (length (passed h' room)) (secured h' room) count in
    ap (λ rs. record (rows_of h') { rooms = rs })
    (one_changed (room_row h') (room_row h) c room
    (λ r k t. ap (λ b. record (room_row h r k) {
      lock_place = length (when b (λ codes. codes ++ from ∷ before to (awaited h r)) (passed h r));
      notes = length (when b (and_last note) (notes h r));
    }) t)
    (λ k. ap (λ m. record (room_row h' room k) { notes = m })
    (ap (λ b. length (when b (and_last note) (notes h room))) (eq_self room) ∙ length_more (notes h room) note ∙ sym n))
    (rooms h) (rooms_once h ok))
    ∙ ap (λ k. record (rows_of h') {
      rooms = room_changed room c (rows_of h).rooms;
      notes = insert_entry pair_cmp (all_notes h) (room, k) note;
    }) (number_said h room count there n)
