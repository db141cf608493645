-- A party is registered at a room exactly where it is in house there.
use Rattle.std.proofs.Common.{ℕ, ◌≡◌, Bool, true, false, cond, Option, Some, None, refl, ap, sym, ◌∙◌, subst, ◌==◌}
use Rattle.std.proofs.Common.{is_some, inl, inr}
use Rattle.hotel_model.proofs.Names.{at_number, Reserved, Cancelled, Issue, CheckOut, History, start, ◌▷◌, registered}
use Rattle.hotel_model.proofs.Names.{other_than, is_taken, stays, room_of, is_party, is_booked, Reached}
use Rattle.hotel_nights.specs.declared.stay.StayState.TheVariants as state
use Rattle.hotel_model.proofs.{OfTables.Numbered.is_there, Invariants.Numbering.next_party_free}
use Rattle.hotel_model.proofs.OfTables.StayStates.{home_of, home_changed, home_added, booked_has_no_home}
use Rattle.hotel_model.proofs.Invariants.Homes.{Match, itself_leaves, match_left, match_came, match_same}
use Rattle.hotel_model.proofs.{Facts.Follow.OrAtHome, OfTables.Tests.eq_from, OfTables.Grown.may_follow}
use Rattle.hotel_model.proofs.{Starts.StartGuests.homes_match_at_start}

pub none_is : (o : Option ℕ) → is_some o ≡ false → o ≡ None
none_is (Some x) h = cc
none_is None h = refl

none_either : (b : Bool) (o : Option ℕ) → (b ≡ true → o ≡ None) → cond b None o ≡ o
none_either true o f = sym (f refl)
none_either false o f = refl

-- a party that is there has a stay
pub has_stay : (h : History) (party : ℕ) → is_party h party ≡ true → is_some (at_number (stays h) party) ≡ true
has_stay h party t = is_there (stays h) party ∙ t

-- a booked party is in no room
pub booked_nowhere : (h : History) (party : ℕ) → is_booked h party ≡ true → room_of h party ≡ None
booked_nowhere h party b = booked_has_no_home (at_number (stays h) party) b

-- who is registered at each room, and in which room each party is
abbrev pub HomesMatch : History → Type 0
HomesMatch h = Match (registered h) (room_of h)

-- nobody but the party is registered at a room to which it comes
nobody_else : (h : History) (party room : ℕ) → HomesMatch h → OrAtHome h party room (is_taken h room ≡ false)
    → other_than party (registered h room) ≡ None
nobody_else h party room m (inl free) = ap (other_than party) (none_is (registered h room) free)
nobody_else h party room m (inr home) = ap (other_than party) (m.back room party home) ∙ itself_leaves party

-- A party is registered at a room exactly where it is in house there.
pub homes_match : (h : History) → Reached h → HomesMatch h
homes_match (start t) ok = homes_match_at_start t ok
homes_match (h ▷ Reserved party guest kind arrive depart) ok =
    let free : at_number (stays h) party ≡ None = subst (λ z. at_number (stays h) z ≡ None)
    (sym (may_follow h (Reserved party guest kind arrive depart) ok).1) (next_party_free h ok.0) in
    match_same (registered h) (registered h) (room_of h) (room_of (h ▷ Reserved party guest kind arrive depart))
    (homes_match h ok.0) (λ r. refl)
    (λ p. home_added party (record {
      party = party;
      guest = guest;
      kind = kind;
      arrive = arrive;
      depart = depart;
      state = state.Booked;
    }) (stays h) p
    ∙ none_either (party == p) (room_of h p)
    (λ t. ap home_of (ap (at_number (stays h)) (sym (eq_from party p t)) ∙ free)))
homes_match (h ▷ Cancelled party) ok =
    let n = may_follow h (Cancelled party) ok in
    match_same (registered h) (registered h) (room_of h) (room_of (h ▷ Cancelled party))
    (homes_match h ok.0) (λ r. refl)
    (λ p. home_changed party state.Cancelled (stays h) p (has_stay h party n.0)
    ∙ none_either (party == p) (room_of h p) (λ t. ap (room_of h) (sym (eq_from party p t))
    ∙ booked_nowhere h party n.1))
homes_match (h ▷ Issue party room number code) ok =
    let n = may_follow h (Issue party room number code) ok in
    match_came party room (registered h) (room_of h) (room_of (h ▷ Issue party room number code)) (homes_match h ok.0)
    (nobody_else h party room (homes_match h ok.0) n.4)
    (λ p. home_changed party (state.InHouse room) (stays h) p (has_stay h party n.1))
homes_match (h ▷ CheckOut party) ok =
    let n = may_follow h (CheckOut party) ok in
    match_left party (registered h) (room_of h) (room_of (h ▷ CheckOut party)) (homes_match h ok.0)
    (λ p. home_changed party state.Done (stays h) p (has_stay h party n.0))
homes_match (h ▷ _) ok = homes_match h ok.0

-- in two directions
pub registered_in_house : (h : History) → Reached h → (r p : ℕ)
    → (registered h r ≡ Some p → room_of h p ≡ Some r) × (room_of h p ≡ Some r → registered h r ≡ Some p)
registered_in_house h ok r p = let m = homes_match h ok in (m.forth r p, m.back r p)
