-- Rooms that are there: they stay; the room of a party in house is one, and so is one at which a card of a new code is
-- given.
use Rattle.std.proofs.Common.{ℕ, ◌≡◌, Bool, true, false, Option, Some, None, List, refl, ap, sym, ◌∙◌, subst, ◌==◌, inl}
use Rattle.std.proofs.Common.{inr}
use Rattle.hotel_model.proofs.Names.{when, Event, Install, Issue, CheckOut, History, start, ◌▷◌, registered, other_than}
use Rattle.hotel_model.proofs.Names.{rooms, room_of, Reached, is_room}
use Rattle.hotel_model.proofs.{OfTables.Numbered.true_is_not_false, OfTables.Numbered.apart_by}
use Rattle.hotel_model.proofs.{OfTables.Grown.may_follow, OfTables.Tests.or_false, OfTables.TableKeys.key_inserted}
use Rattle.hotel_model.proofs.{OfTables.RowTests.or_later}
use Rattle.hotel_model.proofs.{Facts.Follow.OrAtHome, Invariants.InHouse.HomesMatch, Invariants.InHouse.homes_match}
use Rattle.hotel_model.proofs.{Starts.StartGuests.nobody_at_start}

-- a room is apart from what is no room, and that from it
pub apart_rooms : (h : History) (room r : ℕ) → is_room h room ≡ true → is_room h r ≡ false → (room == r) ≡ false
apart_rooms h room r t f = apart_by room r (λ e. true_is_not_false t (subst (λ z. is_room h z ≡ false) (sym e) f))

pub new_is_apart : (h : History) (room r : ℕ) → is_room h room ≡ false → is_room h r ≡ true → (room == r) ≡ false
new_is_apart h room r f t = apart_by room r (λ e. true_is_not_false t (subst (λ z. is_room h z ≡ false) e f))

-- a room that is there stays
pub room_goes_on : (h : History) (event : Event) (r : ℕ) → is_room h r ≡ true → is_room (h ▷ event) r ≡ true
room_goes_on h (Install room kind code) r t = key_inserted (rooms h) room kind r ∙ or_later (room == r) (is_room h r) t
room_goes_on h _ r t = t

-- what is no room after a room was added
pub not_added : (h : History) (room r code : ℕ) (kind : List ℕ)
    → is_room (h ▷ Install room kind code) r ≡ false → ((room == r) ≡ false) × (is_room h r ≡ false)
not_added h room r code kind e = or_false (room == r) (is_room h r) (sym (key_inserted (rooms h) room kind r) ∙ e)

-- where there is no room nobody is registered
abbrev pub NobodyElsewhere : History → Type 0
NobodyElsewhere h = (r : ℕ) → is_room h r ≡ false → registered h r ≡ None

home_by : (h : History) (party room : ℕ)
    → HomesMatch h → NobodyElsewhere h → room_of h party ≡ Some room → is_room h room ≡ true
home_by h party room m nobody e = by (is_room h room) refl
  where
    by : (b : Bool) → is_room h room ≡ b → is_room h room ≡ true
    by true t = t
    by false f = let w : ◌≡◌ {A = Option ℕ} (Some party) None = sym (m.back room party e) ∙ nobody room f in cc

comes_by : (h : History) (party room : ℕ)
    → HomesMatch h → NobodyElsewhere h → OrAtHome h party room (is_room h room ≡ true) → is_room h room ≡ true
comes_by h party room m nobody (inl there) = there
comes_by h party room m nobody (inr home) = home_by h party room m nobody home

pub nobody_registered : (h : History) → Reached h → (r : ℕ) → is_room h r ≡ false → registered h r ≡ None
nobody_registered (start t) ok r e = nobody_at_start t r e
nobody_registered (h ▷ Install room kind code) ok r e = nobody_registered h ok.0 r (not_added h room r code kind e).1
nobody_registered (h ▷ Issue party room number code) ok r e =
    ap (λ b. when b (λ _. Some party) (other_than party (registered h r))) (apart_rooms h room r (comes_by h party room
    (homes_match h ok.0) (nobody_registered h ok.0) (may_follow h (Issue party room number code) ok).0) e)
    ∙ ap (other_than party) (nobody_registered h ok.0 r e)
nobody_registered (h ▷ CheckOut party) ok r e = ap (other_than party) (nobody_registered h ok.0 r e)
nobody_registered (h ▷ _) ok r e = nobody_registered h ok.0 r e

-- The room of a party in house is there.
pub home_is_room : (h : History) (party room : ℕ) → Reached h → room_of h party ≡ Some room → is_room h room ≡ true
home_is_room h party room ok e = home_by h party room (homes_match h ok) (nobody_registered h ok) e

-- So is the one to which a party comes.
pub comes_to_room : (h : History) (party room : ℕ)
    → Reached h → OrAtHome h party room (is_room h room ≡ true) → is_room h room ≡ true
comes_to_room h party room ok o = comes_by h party room (homes_match h ok) (nobody_registered h ok) o
