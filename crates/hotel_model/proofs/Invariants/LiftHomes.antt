-- A registered party's last card has the newest link of its room.
use Rattle.std.proofs.Common.{ℕ, ◌≡◌, ◌-◌, Bool, true, false, Option, Some, None, ap, sym, ◌∙◌, length, ◌==◌}
use Rattle.std.proofs.Common.{is_some}
use Rattle.hotel_model.proofs.Names.{Link, when, said_of, Issue, Refitted, CheckOut, History, start, ◌▷◌, link_to}
use Rattle.hotel_model.proofs.Names.{newest_link, link_of_party, registered, other_than, issued, rows_of, room_of}
use Rattle.hotel_model.proofs.Names.{no_link, codes_of, said_code_at, home_link_on, last_link_on, Reached}
use Rattle.hotel_model.proofs.{OfTables.Tests.eq_self, OfTables.Tests.some_there, OfTables.Grown.may_follow}
use Rattle.hotel_model.proofs.{Invariants.CardParties.not_taken_here}
use Rattle.hotel_model.proofs.{Invariants.Homes.stays_on}
use Rattle.hotel_model.proofs.{Invariants.InHouse.registered_in_house, Invariants.InHouseLinks.in_house_has_link}
use Rattle.hotel_model.proofs.{Invariants.OpenLocks.there_by_link, Invariants.CodesFound.newest_found}
use Rattle.hotel_model.proofs.{Lifted.LiftFacts.HomeLink, Lifted.LiftRooms.codes_said}
use Rattle.hotel_model.proofs.Starts.StartGuests.{has_newest_at_start}

-- a registered party's last link is its room's newest
abbrev pub HasNewest : History → Type 0
HasNewest h = (r p : ℕ) → registered h r ≡ Some p → newest_link h r ≡ link_of_party h p

-- a party comes to a room: there it has the new link, and others keep theirs
came_with_link : (b : Bool) (party p r : ℕ) (link : Link) (registered_before : Option ℕ) (newest of_party : Option Link)
    → when b (λ _. Some party) registered_before ≡ Some p
    → (registered_before ≡ Some p → ((party == p) ≡ false) × (newest ≡ of_party))
    → when b (λ _. Some link) newest ≡ when (party == p) (λ _. Some link) of_party
came_with_link true party p r link before newest of_party e others =
    let same : party ≡ p = cc in
    ap (λ b. when b (λ _. Some link) of_party) (sym (ap (λ z. party == z) (sym same) ∙ eq_self party))
came_with_link false party p r link before newest of_party e others =
    let o = others e in
    o.1 ∙ ap (λ b. when b (λ _. Some link) of_party) (sym o.0)

pub has_newest : (h : History) → Reached h → HasNewest h
has_newest (start t) ok r p e = has_newest_at_start t ok r p e
has_newest (h ▷ Issue party room number code) ok r p e =
    came_with_link (room == r) party p r (link_to h room code) (other_than party (registered h r))
    (newest_link h r) (link_of_party h p) e
    (λ was. let s = stays_on party (registered h r) p was in (s.1, has_newest h ok.0 r p s.0))
has_newest (h ▷ CheckOut party) ok r p e = has_newest h ok.0 r p (stays_on party (registered h r) p e).0
has_newest (h ▷ Refitted room fit code) ok r p e =
    ap (λ b. when b (λ (l : Option Link). None) (newest_link h r))
    (not_taken_here h room r p (may_follow h (Refitted room fit code) ok).1 e) ∙ has_newest h ok.0 r p e
has_newest (h ▷ _) ok r p e = has_newest h ok.0 r p e

-- a party in house has a link, and it is the newest of its room
pub home_has_newest : (h : History) → Reached h → (party room : ℕ) → room_of h party ≡ Some room
    → (link : Link) × (link_of_party h party ≡ Some link) × (newest_link h room ≡ Some link)
home_has_newest h ok party room e =
    let l = some_there (link_of_party h party) (in_house_has_link h ok party (ap is_some e)) in
    (l.0, l.1, has_newest h ok room party ((registered_in_house h ok room party).1 e) ∙ l.1)

-- the link of a room's last two codes is that of a party that is in house there
pub home_link_found : (h : History) → Reached h → HomeLink h
home_link_found h ok party room e =
    let l = home_has_newest h ok party room e in
    let codes = newest_found h ok room l.0 l.2 in
    let n : codes_of (rows_of h) room ≡ length (issued h room) = codes_said h room (there_by_link h ok room l.0 l.2) in
    let here : home_link_on (rows_of h) party ≡ record {
      old_code = said_code_at (rows_of h) room (length (issued h room) - 2);
      new_code = said_code_at (rows_of h) room (length (issued h room) - 1);
    } =
    ap (λ o. said_of o no_link (last_link_on (rows_of h))) e
    ∙ ap (λ m. let x : Link = record {
      old_code = said_code_at (rows_of h) room (m - 2);
      new_code = said_code_at (rows_of h) room (m - 1);
    } in x) n in
    l.1 ∙ ap (λ z. Some z) (sym (here
    ∙ ap (λ o. let x : Link = record {
      old_code = said_of o 0 (λ c. c);
      new_code = said_code_at (rows_of h) room (length (issued h room) - 1);
    } in x) codes.0
    ∙ ap (λ o. let x : Link = record { old_code = l.0.old_code; new_code = said_of o 0 (λ c. c) } in x) codes.1))
