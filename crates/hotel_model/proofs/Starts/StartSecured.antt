-- Secured rooms of sound rows: nothing is awaited there, and the cards inside have the newest link.
use Rattle.std.proofs.Common.{ℕ, ◌≡◌, ◌≤◌, ◌-◌, ◌+◌, Bool, true, false, cond, None, Some, List, [], ◌∷◌, length, inl}
use Rattle.std.proofs.Common.{inr, refl, ap, sym, ◌∙◌, arith, ◌==◌, ◌&&◌, ◌||◌, not, nat_le, is_some}
use Rattle.hotel_model.proofs.Names.{list_all, RoomRow, Card, is_one_of, Rows, at_number, codes_at, lock_place_of}
use Rattle.hotel_model.proofs.Names.{last_link_of, newest_link_at, begins_fit, Link, has_entered, start, those_in}
use Rattle.hotel_model.proofs.Names.{secured, room_is, card_is, code_is, stands_at, is_newest, fits_inside, IsSound}
use Rattle.std.proofs.Math.ListN.{drop_of_length-le}
use Rattle.hotel_model.proofs.{Facts.CodeFacts.SecuredRoomsFit, OfTables.Tests.eq_from, OfTables.Tests.and_true}
use Rattle.hotel_model.proofs.{OfTables.Tests.or_second, OfTables.Tests.not_true, OfTables.Tests.not_both}
use Rattle.hotel_model.proofs.{Invariants.InsideRooms.one_of_when, OfTables.RowTests.found_passes}
use Rattle.hotel_model.proofs.{Starts.StartRules.said_true, Starts.StartRules.said_at, OfTables.Tests.le_from}
use Rattle.hotel_model.proofs.{Starts.StartCodes.room_there_is, Starts.StartCodes.room_is as its_number}
use Rattle.hotel_model.proofs.{Starts.StartCodes.counted, Starts.StartCodes.lock_within}
use Rattle.hotel_model.proofs.{Starts.StartLinks.newest_by_rule}

-- a card inside a room passes the test of all insides
pub inside_passes : (test : ℕ × ℕ → Bool) (es : List (ℕ × ℕ)) (r n : ℕ)
    → list_all test es ≡ true → is_one_of n (those_in es r) ≡ true → test (r, n) ≡ true
inside_passes test [] r n a e = not_both false e refl
inside_passes test (x ∷ es) r n a e =
    let p = and_true (test x) (list_all test es) a in
    elim (one_of_when (x.0 == r) n x.1 (those_in es r) e) [
      | inl q ↦ ap (λ z. test (z, n)) (sym (eq_from x.0 r q.0)) ∙ ap (λ z. test (x.0, z)) (sym q.1) ∙ p.0
      | inr q ↦ inside_passes test es r n p.1 q
    ]

-- what the rule says of a secured room
secured_rule : (t : Rows) → IsSound t → (r : ℕ) (row : RoomRow) → at_number t.rooms r ≡ Some row → row.secured ≡ true
    → ((row.lock_place == row.codes - 1) ≡ true) × (nat_le 2 row.codes ≡ true)
    × (not (begins_fit t row.room (row.codes - 1)) ≡ true)
secured_rule t s r row e secured =
    let a = found_passes (λ (e : ℕ × RoomRow). not e.1.secured || ((e.1.lock_place == e.1.codes - 1)
    && nat_le 2 e.1.codes && not (begins_fit t e.1.room (e.1.codes - 1)))) t.rooms r row s.room_secured e in
    let b = or_second (not row.secured) ((row.lock_place == row.codes - 1) && nat_le 2 row.codes
    && not (begins_fit t row.room (row.codes - 1))) (ap not secured) a in
    let c = and_true ((row.lock_place == row.codes - 1) && nat_le 2 row.codes)
    (not (begins_fit t row.room (row.codes - 1))) b in
    let d = and_true (row.lock_place == row.codes - 1) (nat_le 2 row.codes) c.0 in
    (d.0, d.1, c.1)

link_of_two : (codes : List ℕ) → 2 ≤ length codes → (link : Link) × (last_link_of codes ≡ Some link)
link_of_two [] l = absurd (omega arith)
link_of_two (a ∷ []) l = absurd (omega arith)
link_of_two (a ∷ b ∷ []) l = (record { old_code = a; new_code = b }, refl)
link_of_two (a ∷ b ∷ c ∷ codes) l = link_of_two (b ∷ c ∷ codes) (omega arith)

-- A secured room has a newest link.
pub secured_have_newest_at_start : (t : Rows) → IsSound t → (r : ℕ)
    → secured (start t) r ≡ true → (link : Link) × (newest_link_at t r ≡ Some link)
secured_have_newest_at_start t s r e =
    let row = said_true (at_number t.rooms r) (λ row. row.secured) e in
    let rule = secured_rule t s r row.0 row.1 row.2 in
    let two = le_from 2 row.0.codes rule.1 in
    let many = (counted t s r row.0 row.1).many in
    let link = link_of_two (codes_at t r) (omega arith) in
    let none : begins_fit t r (length (codes_at t r) - 1) ≡ false =
    ap (λ n. begins_fit t r (n - 1)) many
    ∙ ap (λ z. begins_fit t z (row.0.codes - 1)) (sym (its_number t s r row.0 row.1))
    ∙ not_true (begins_fit t row.0.room (row.0.codes - 1)) rule.2 in
    (link.0, ap (λ b. cond b None (last_link_of (codes_at t r))) none ∙ link.1)

-- a secured room's lock holds its last code
secured_last : (t : Rows) → IsSound t → (r : ℕ) (row : RoomRow)
    → at_number t.rooms r ≡ Some row → row.secured ≡ true → length (codes_at t r) ≤ lock_place_of t r + 1
secured_last t s r row e secured =
    let rule = secured_rule t s r row e secured in
    let d : row.lock_place ≡ row.codes - 1 = eq_from row.lock_place (row.codes - 1) rule.0 in
    let many = (counted t s r row e).many in
    let l = (lock_within t s r row e).0 in
    omega arith

inside_newest : (t : Rows) → IsSound t → (r : ℕ) (row : RoomRow) (n : ℕ)
    → at_number t.rooms r ≡ Some row → row.secured ≡ true → is_one_of n (those_in t.inside r) ≡ true
    → (card : Card) × (at_number t.cards n ≡ Some card) × (newest_link_at t r ≡ Some card.link)
inside_newest t s r row n e secured i =
    let a = inside_passes (λ (e : ℕ × ℕ). room_is t e.0 (λ row. card_is t e.1 (fits_inside t e.0 row)))
    t.inside r n s.inside_fits i in
    let b = said_at (at_number t.rooms r) false (λ row. card_is t n (fits_inside t r row)) row e a in
    let card = said_true (at_number t.cards n) (fits_inside t r row) b in
    let c = and_true (stands_at t r card.0.link && code_is t card.0.link.new_code (has_entered t r row))
    (not row.secured || is_newest t r card.0.link) card.2 in (
      card.0,
      card.1,
      newest_by_rule t r card.0.link (or_second (not row.secured) (is_newest t r card.0.link) (ap not secured) c.1),
    )

-- A secured room awaits no code, and each card inside has its newest link.
pub secured_rooms_fit_at_start : (t : Rows) → IsSound t → SecuredRoomsFit (start t)
secured_rooms_fit_at_start t s r e =
    let row = said_true (at_number t.rooms r) (λ row. row.secured) e in (
      room_there_is t r ∙ ap is_some row.1,
      drop_of_length-le (codes_at t r) (secured_last t s r row.0 row.1 row.2),
      λ n i. inside_newest t s r row.0 n row.1 row.2 i,
    )
