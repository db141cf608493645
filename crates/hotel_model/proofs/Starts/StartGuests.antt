-- The guests of sound rows: who is registered is in house there, and has a card of the room's newest link.
use Rattle.std.proofs.Common.{ℕ, ◌≡◌, true, false, Option, Some, None, refl, ap, sym, ◌∙◌, ◌&&◌, is_some, bytes_eq}
use Rattle.std.proofs.Common.{option_map}
use Rattle.hotel_model.proofs.Names.{Link, Stay, RoomRow, said_of, is_that, Rows, at_number, link_of_last_card, start}
use Rattle.hotel_model.proofs.Names.{registered, newest_link, link_of_party, is_room, room_of, room_of_state}
use Rattle.hotel_model.proofs.Names.{is_in_house, is_newest, IsSound, is_home_of, rooms}
use Rattle.hotel_model.proofs.{Facts.CodeFacts.GuestsHaveCards, OfTables.Tests.and_true, Invariants.Homes.Match}
use Rattle.hotel_model.proofs.{OfTables.RowTests.found_passes}
use Rattle.hotel_model.proofs.{Starts.StartRules.said_true, Starts.StartRules.said_at, Starts.StartRules.some_of}
use Rattle.hotel_model.proofs.{Starts.StartRules.that_is, Starts.StartCodes.room_is}
use Rattle.hotel_model.proofs.{Starts.StartNumbers.party_is, Starts.StartLedger.not_there}
use Rattle.hotel_model.proofs.{Starts.StartLinks.newest_by_rule, Starts.StartLinks.parties_have_cards_at_start}
use Rattle.hotel_model.proofs.OfTables.Numbered.{at_mapped}

said_some : {X : Type 0} (o : Option X) (f : X → Option ℕ) (n : ℕ)
    → said_of o None f ≡ Some n → (x : X) × (o ≡ Some x) × (f x ≡ Some n)
said_some (Some x) f n e = (x, refl, e)
said_some None f n e = absurd (let w : ◌≡◌ {A = Option ℕ} None (Some n) = e in cc)

-- the stay of a room's party is in house there, and of the room's kind
stay_of_guest : (t : Rows) → IsSound t → (r p : ℕ) (row : RoomRow) → at_number t.rooms r ≡ Some row → row.party ≡ Some p
    → (stay : Stay) × (at_number t.stays p ≡ Some stay) × (room_of_state stay.state ≡ Some r)
    × (bytes_eq row.kind stay.kind ≡ true)
stay_of_guest t s r p row e f =
    let a =
    found_passes (λ (e : ℕ × RoomRow). said_of e.1.party true (is_home_of t e.1)) t.rooms r row s.room_party e in
    let b = said_at row.party true (is_home_of t row) p f a in
    let stay = said_true (at_number t.stays p)
    (λ stay. is_that (room_of_state stay.state) row.room && bytes_eq row.kind stay.kind) b in
    let c = and_true (is_that (room_of_state stay.0.state) row.room) (bytes_eq row.kind stay.0.kind) stay.2 in
    (stay.0, stay.1, that_is (room_of_state stay.0.state) row.room c.0 ∙ ap (λ z. Some z) (room_is t s r row e), c.1)

-- a registered party is in house at the room
in_house_there : (t : Rows) → IsSound t → (r p : ℕ) → registered (start t) r ≡ Some p → room_of (start t) p ≡ Some r
in_house_there t s r p e =
    let row = said_some (at_number t.rooms r) (λ row. row.party) p e in
    let stay = stay_of_guest t s r p row.0 row.1 row.2 in
    ap (λ o. said_of o None (λ stay. room_of_state stay.state)) stay.1 ∙ stay.2

-- a party in house at a room is registered there
registered_there : (t : Rows) → IsSound t → (r p : ℕ) → room_of (start t) p ≡ Some r → registered (start t) r ≡ Some p
registered_there t s r p e =
    let stay = said_some (at_number t.stays p) (λ stay. room_of_state stay.state) r e in
    let a = found_passes (λ (e : ℕ × Stay). said_of (room_of_state e.1.state) true (λ room. said_of
    (at_number t.rooms room) false (λ row. is_that row.party e.1.party))) t.stays p stay.0 s.stay_room stay.1 in
    let b = said_at (room_of_state stay.0.state) true
    (λ room. said_of (at_number t.rooms room) false (λ row. is_that row.party stay.0.party)) r stay.2 a in
    let row = said_true (at_number t.rooms r) (λ row. is_that row.party stay.0.party) b in
    ap (λ o. said_of o None (λ row. row.party)) row.1 ∙ that_is row.0.party stay.0.party row.2
    ∙ ap (λ z. Some z) (party_is t s p stay.0 stay.1)

-- A party is registered at a room exactly where it is in house there.
pub homes_match_at_start : (t : Rows) → IsSound t → Match (registered (start t)) (room_of (start t))
homes_match_at_start t s =
    record { forth = λ r p e. in_house_there t s r p e; back = λ r p e. registered_there t s r p e }

-- The room of each stay in house is there, and of the stay's kind.
pub homes_of_kind_at_start : (t : Rows) → IsSound t → (p r : ℕ) (stay : Stay)
    → at_number t.stays p ≡ Some stay → room_of_state stay.state ≡ Some r
    → said_of (at_number (rooms (start t)) r) false (λ k. bytes_eq k stay.kind) ≡ true
homes_of_kind_at_start t s p r stay e home =
    let in_house : room_of (start t) p ≡ Some r =
    ap (λ o. said_of o None (λ stay. room_of_state stay.state)) e ∙ home in
    let row = said_some (at_number t.rooms r) (λ row. row.party) p (registered_there t s r p in_house) in
    let found = stay_of_guest t s r p row.0 row.1 row.2 in
    let same : Some stay ≡ Some found.0 = sym e ∙ found.1 in
    ap (λ o. said_of o false (λ k. bytes_eq k stay.kind))
    (at_mapped (λ _ (row : RoomRow). row.kind) t.rooms r ∙ ap (option_map (λ (row : RoomRow). row.kind)) row.1)
    ∙ ap (λ o. said_of o false (λ (x : Stay). bytes_eq row.0.kind x.kind)) same ∙ found.3

-- the last card of a party in house has the newest link of its room
pub home_link_at_start : (t : Rows) → IsSound t → (p r : ℕ) → room_of (start t) p ≡ Some r
    → (link : Link) × (link_of_party (start t) p ≡ Some link) × (newest_link (start t) r ≡ Some link)
home_link_at_start t s p r e =
    let stay = said_some (at_number t.stays p) (λ stay. room_of_state stay.state) r e in
    let a = found_passes (λ (e : ℕ × Stay). said_of (room_of_state e.1.state) true (λ room. said_of
    (link_of_last_card t.cards e.1.party) false (is_newest t room))) t.stays p stay.0 s.card_last stay.1 in
    let b = said_at (room_of_state stay.0.state) true
    (λ room. said_of (link_of_last_card t.cards stay.0.party) false (is_newest t room)) r stay.2 a in
    let link = said_true (link_of_last_card t.cards stay.0.party) (is_newest t r) b in (
      link.0,
      ap (link_of_last_card t.cards) (sym (party_is t s p stay.0 stay.1)) ∙ link.1,
      newest_by_rule t r link.0 link.2,
    )

-- A party in house was given a card.
pub in_house_has_link_at_start : (t : Rows) → IsSound t → (p : ℕ)
    → is_in_house (start t) p ≡ true → is_some (link_of_party (start t) p) ≡ true
in_house_has_link_at_start t s p e =
    let home = some_of (room_of (start t) p) e in
    ap is_some (home_link_at_start t s p home.0 home.1).1

-- A registered party's last link is its room's newest.
pub has_newest_at_start : (t : Rows) → IsSound t → (r p : ℕ)
    → registered (start t) r ≡ Some p → newest_link (start t) r ≡ link_of_party (start t) p
has_newest_at_start t s r p e = let l = home_link_at_start t s p r (in_house_there t s r p e) in l.2 ∙ sym l.1

-- A registered party has a card of its room's newest link.
pub guests_have_cards_at_start : (t : Rows) → IsSound t → GuestsHaveCards (start t)
guests_have_cards_at_start t s r p e =
    let l = home_link_at_start t s p r (in_house_there t s r p e) in
    (l.0, l.2, parties_have_cards_at_start t s p l.0 l.1)

-- Where there is no room nobody is registered.
pub nobody_at_start : (t : Rows) (r : ℕ) → is_room (start t) r ≡ false → registered (start t) r ≡ None
nobody_at_start t r e = ap (λ o. said_of o None (λ row. row.party)) (not_there t r e)
