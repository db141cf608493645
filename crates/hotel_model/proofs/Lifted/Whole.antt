-- The rows of a history are whole: what they point to is there.
use Rattle.std.proofs.Common.{ℕ, ◌≡◌, ◌+◌, ◌-◌, ◌<◌, ◌≤◌, ◌^◌, true, Some, None, List, [], ◌∷◌, ◌++◌, ap, sym, ◌∙◌}
use Rattle.std.proofs.Common.{subst, arith, length, append_assoc, is_some, IsSome}
use Rattle.hotel_model.proofs.Names.{Card, RoomRow, Rows, at_number, History, issued, all_issued, cards, notes}
use Rattle.hotel_model.proofs.Names.{notes_of, notes_before, present_fit, fits, fits_at, room_row, rows_of, is_room}
use Rattle.hotel_model.proofs.Names.{room_of, room_at, code_at, note_at, codes_of, AreWhole, Reached, StandsFor}
use Rattle.hotel_model.proofs.{OfTables.RoomNumbers.room_there, Lifted.NotesFound.note_found}
use Rattle.hotel_model.proofs.{Invariants.NotesOfFits.notes_for, Invariants.FitsOf.fits_of, OfTables.AtRoom.there_at}
use Rattle.hotel_model.proofs.{Invariants.NumbersLeft.cards_fit, Invariants.NumbersLeft.codes_fit}
use Rattle.hotel_model.proofs.{Invariants.CodePlaces.codes_have_places, Invariants.CodesFound.held_found}
use Rattle.hotel_model.proofs.{Invariants.CodesFound.current_found, Invariants.CodesFound.newest_found}
use Rattle.hotel_model.proofs.{Invariants.OpenLocks.there_by_link, Invariants.RoomLinks.cards_have_links}
use Rattle.hotel_model.proofs.{Lifted.LiftEasy.room_is_there, Lifted.LiftRooms.codes_said}
use Rattle.hotel_model.proofs.Invariants.LiftHomes.{home_has_newest}

there : (h : History) (room : ℕ) (row : RoomRow) → room_at (rows_of h) room ≡ Some row → is_room h room ≡ true
there h room row e = sym (room_is_there h room) ∙ ap is_some e

-- what a room's row is
pub its_row : (h : History) (room : ℕ) (row : RoomRow)
    → room_at (rows_of h) room ≡ Some row → (kind : List ℕ) × (row ≡ room_row h room kind)
its_row h room row e =
    let r = room_there h room (there h room row e) in
    let same : Some row ≡ Some (room_row h room r.0) = sym e ∙ r.2 in
    (r.0, ap (λ o. elim o [ Some x ↦ x | None ↦ row ]) same)

current_there : (h : History) → Reached h → (room : ℕ) (row : RoomRow)
    → room_at (rows_of h) room ≡ Some row → IsSome (code_at (rows_of h) room (row.codes - 1))
current_there h ok room row e =
    ap (λ (r : RoomRow). is_some (code_at (rows_of h) room (r.codes - 1))) (its_row h room row e).1
    ∙ ap is_some (current_found h ok room (there h room row e))

held_there : (h : History) → Reached h → (room : ℕ) (row : RoomRow)
    → room_at (rows_of h) room ≡ Some row → IsSome (code_at (rows_of h) room row.lock_place)
held_there h ok room row e =
    ap (λ (r : RoomRow). is_some (code_at (rows_of h) room r.lock_place)) (its_row h room row e).1
    ∙ ap is_some (held_found h ok room (there h room row e))

few_codes : (h : History) → Reached h → (room : ℕ) (row : RoomRow)
    → room_at (rows_of h) room ≡ Some row → row.codes < 2 ^ 32 - 1
few_codes h ok room row e =
    let n : row.codes ≡ length (issued h room) = ap (λ (r : RoomRow). r.codes) (its_row h room row e).1 in
    let few : length (issued h room) ≤ length (cards h) + length (fits_at (fits h) room) = codes_fit h ok room in
    let most = (fits_of h ok room (there h room row e)).most in
    let fit : length (cards h) ≤ 9999999 = cards_fit h ok in
    omega arith

note_there : (h : History) → Reached h → (room count : ℕ) (row : RoomRow) → room_at (rows_of h) room ≡ Some row
    → 1 ≤ count → count ≤ row.notes - row.before → IsSome (note_at (rows_of h) room row.fit count)
note_there h ok room count row e one most =
    let n : row.notes ≡ length (notes h room) = ap (λ (r : RoomRow). r.notes) (its_row h room row e).1 in
    let b : row.before ≡ notes_before h room = ap (λ (r : RoomRow). r.before) (its_row h room row e).1 in
    let f : row.fit ≡ present_fit h room = ap (λ (r : RoomRow). r.fit) (its_row h room row e).1 in
    let taken = (notes_for h ok room).1 in
    let x = there_at (count - 1) (notes_of h room (present_fit h room)) (omega arith) in
    ap (λ z. is_some (note_at (rows_of h) room z count)) f
    ∙ ap is_some (note_found h ok room (present_fit h room) count (there h room row e) one ∙ x.1)

home_there : (h : History) → Reached h → (party room : ℕ) → room_of h party ≡ Some room
    → IsSome (room_at (rows_of h) room) × IsSome (code_at (rows_of h) room (codes_of (rows_of h) room - 2))
home_there h ok party room e =
    let newest = home_has_newest h ok party room e in
    let is_there = there_by_link h ok room newest.0 newest.2 in (
      room_is_there h room ∙ is_there,
      ap (λ n. is_some (code_at (rows_of h) room (n - 2))) (codes_said h room is_there)
          ∙ ap is_some (newest_found h ok room newest.0 newest.2).0,
    )

card_there : (h : History) → Reached h → (number : ℕ) (card : Card)
    → at_number (cards h) number ≡ Some card → IsSome (at_number (all_issued h) card.link.new_code)
card_there h ok number card e =
    let l = cards_have_links h ok number card e in
    ap is_some (codes_have_places h ok l.0 (l.1.0 ++ card.link.old_code ∷ []) card.link.new_code l.1.1
    (l.1.2 ∙ sym (append_assoc l.1.0 (card.link.old_code ∷ []) (card.link.new_code ∷ l.1.1))))

pub whole : (h : History) → Reached h → AreWhole (rows_of h)
whole h ok = record {
  current = current_there h ok;
  held = held_there h ok;
  few = few_codes h ok;
  noted = note_there h ok;
  homes = home_there h ok;
  cards = card_there h ok;
}

-- Rows that stand for a history are whole.
pub rows_are_whole : (h : History) (rows : Rows) → StandsFor h rows → AreWhole rows
rows_are_whole h rows stands = subst (λ z. AreWhole z) (sym stands.1) (whole h stands.0)
