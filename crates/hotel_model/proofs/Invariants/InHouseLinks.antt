-- A party in house was given a card.
use Rattle.std.proofs.Common.{ℕ, ◌≡◌, Bool, true, false, cond, Option, Some, None, refl, ap, sym, ◌∙◌, ◌==◌, is_some}
use Rattle.hotel_model.proofs.Names.{Link, when, Reserved, Cancelled, Issue, CheckOut, History, start, ◌▷◌}
use Rattle.hotel_model.proofs.Names.{link_of_party, link_to, stays, room_of, is_in_house, Reached}
use Rattle.hotel_nights.specs.declared.stay.StayState.TheVariants as state
use Rattle.hotel_model.proofs.{OfTables.StayStates.home_changed, OfTables.StayStates.home_added}
use Rattle.hotel_model.proofs.{Invariants.InHouse.has_stay, OfTables.Grown.may_follow}
use Rattle.hotel_model.proofs.Starts.StartGuests.{in_house_has_link_at_start}

was_some : (b : Bool) (o : Option ℕ) → is_some (cond b None o) ≡ true → is_some o ≡ true
was_some true o h = cc
was_some false o h = h

given_or_was : (b : Bool) (room : ℕ) (link : Link) (home : Option ℕ) (last : Option Link)
    → is_some (cond b (Some room) home) ≡ true → (is_some home ≡ true → is_some last ≡ true)
    → is_some (when b (λ _. Some link) last) ≡ true
given_or_was true room link home last h f = refl
given_or_was false room link home last h f = f h

-- A party in house was given a card.
pub in_house_has_link : (h : History) → Reached h → (p : ℕ)
    → is_in_house h p ≡ true → is_some (link_of_party h p) ≡ true
in_house_has_link (start t) ok p e = in_house_has_link_at_start t ok p e
in_house_has_link (h ▷ Reserved party guest kind arrive depart) ok p e =
    in_house_has_link h ok.0 p (was_some (party == p) (room_of h p)
    (sym (ap is_some (home_added party (record {
      party = party;
      guest = guest;
      kind = kind;
      arrive = arrive;
      depart = depart;
      state = state.Booked;
    }) (stays h) p)) ∙ e))
in_house_has_link (h ▷ Cancelled party) ok p e =
    in_house_has_link h ok.0 p (was_some (party == p) (room_of h p)
    (sym (ap is_some
    (home_changed party state.Cancelled (stays h) p (has_stay h party (may_follow h (Cancelled party) ok).0))) ∙ e))
in_house_has_link (h ▷ Issue party room number code) ok p e =
    given_or_was (party == p) room (link_to h room code) (room_of h p) (link_of_party h p)
    (sym (ap is_some (home_changed party (state.InHouse room) (stays h) p
    (has_stay h party (may_follow h (Issue party room number code) ok).1))) ∙ e)
    (in_house_has_link h ok.0 p)
in_house_has_link (h ▷ CheckOut party) ok p e =
    in_house_has_link h ok.0 p (was_some (party == p) (room_of h p)
    (sym (ap is_some
    (home_changed party state.Done (stays h) p (has_stay h party (may_follow h (CheckOut party) ok).0))) ∙ e))
in_house_has_link (h ▷ _) ok p e = in_house_has_link h ok.0 p e
