-- The cards inside rooms of sound rows: the room's lock came to their new code.
use Rattle.std.proofs.Common.{ℕ, ◌≡◌, ◌≤◌, ◌+◌, true, Some, None, List, [], ◌∷◌, ◌++◌, length, take, ap, sym, ◌∙◌}
use Rattle.std.proofs.Common.{arith, append_assoc, length-append, ◌&&◌, ◌||◌, not, nat_le, nat_lt, is_some}
use Rattle.hotel_model.proofs.Names.{Card, Link, CodeRow, RoomRow, is_one_of, Rows, at_number, codes_at, lock_place_of}
use Rattle.hotel_model.proofs.Names.{start, those_in, is_room, room_is, card_is, code_is, stands_at, is_newest}
use Rattle.hotel_model.proofs.Names.{fits_inside, has_entered, last_fit_place, IsSound}
use Rattle.hotel_model.proofs.{Facts.CodeFacts.IsLinkOf, OfTables.Tests.and_true, Starts.StartRules.said_true}
use Rattle.hotel_model.proofs.{OfTables.Tests.le_from, OfTables.Tests.lt_from}
use Rattle.hotel_model.proofs.{Starts.StartCodes.room_there_is, Starts.StartCodes.place_is_row}
use Rattle.hotel_model.proofs.{Starts.StartLinks.stands_is, Starts.StartSecured.inside_passes}
use Rattle.hotel_model.proofs.Starts.StartRows.{lock_is}

-- the link's codes are neighbours at the room, and its lock came to the new one
abbrev HasSeen : Rows → ℕ → Link → Type 0
HasSeen t r link = (prefix : List ℕ) × (later : List ℕ)
    × (codes_at t r ≡ prefix ++ link.old_code ∷ link.new_code ∷ later)
    × (length prefix + 1 ≤ length (take (lock_place_of t r) (codes_at t r))) × (last_fit_place t r ≤ length prefix)

place_of : (t : Rows) → IsSound t → (r : ℕ) (link : Link) (l : IsLinkOf (codes_at t r) link) (row : CodeRow)
    → at_number t.codes link.new_code ≡ Some row → row.place ≡ length l.0 + 1
place_of t s r link l row e =
    let there = place_is_row t s r (l.0 ++ link.old_code ∷ []) link.new_code l.1
    (l.2 ∙ sym (append_assoc l.0 (link.old_code ∷ []) (link.new_code ∷ l.1))) in
    let same : Some row ≡ Some (record { room = r; place = length (l.0 ++ link.old_code ∷ []) }) = sym e ∙ there in
    let place : row.place ≡ length (l.0 ++ link.old_code ∷ []) =
    ap (λ o. elim o [ Some x ↦ x.place | None ↦ 0 ]) same in
    omega (arith, place, length-append l.0 (link.old_code ∷ []))

seen_by : (t : Rows) → IsSound t → (r : ℕ) (row : RoomRow) (card : Card)
    → at_number t.rooms r ≡ Some row → fits_inside t r row card ≡ true → HasSeen t r card.link
seen_by t s r row card e f =
    let p = and_true (stands_at t r card.link && code_is t card.link.new_code (has_entered t r row))
    (not row.secured || is_newest t r card.link) f in
    let q = and_true (stands_at t r card.link) (code_is t card.link.new_code (has_entered t r row)) p.0 in
    let l = stands_is t s r card.link q.0 in
    let new = said_true (at_number t.codes card.link.new_code) (has_entered t r row) q.1 in
    let place = place_of t s r card.link l new.0 new.1 in
    let entered = and_true (nat_lt (last_fit_place t r) new.0.place) (nat_le new.0.place row.lock_place) new.2 in
    let few = le_from new.0.place row.lock_place entered.1 in
    let past = lt_from (last_fit_place t r) new.0.place entered.0 in
    let lock = lock_is t s r row e in
    (l.0, l.1, l.2, omega arith, omega arith)

-- A card inside a room is there, and the room's lock has seen its link.
pub insiders_seen_at_start : (t : Rows) → IsSound t → (r n : ℕ) → is_one_of n (those_in t.inside r) ≡ true
    → (is_room (start t) r ≡ true) × (card : Card) × (at_number t.cards n ≡ Some card) × HasSeen t r card.link
insiders_seen_at_start t s r n i =
    let a = inside_passes (λ (e : ℕ × ℕ). room_is t e.0 (λ row. card_is t e.1 (fits_inside t e.0 row)))
    t.inside r n s.inside_fits i in
    let row = said_true (at_number t.rooms r) (λ row. card_is t n (fits_inside t r row)) a in
    let card = said_true (at_number t.cards n) (fits_inside t r row.0) row.2 in
    (room_there_is t r ∙ ap is_some row.1, card.0, card.1, seen_by t s r row.0 card.0 row.1 card.2)
