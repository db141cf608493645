-- Rooms and the stays in house: each has the other, and they are of one kind.
use Rattle.std.proofs.Common.{ℕ, ◌≡◌, Bool, true, false, cond, Option, Some, None, List, ◌⊎◌, inl, inr, refl, ap, sym}
use Rattle.std.proofs.Common.{◌∙◌, subst, ◌==◌, ◌&&◌, option_map, bytes_eq, nat_cmp}
use Rattle.hotel_model.proofs.Names.{insert_entry, Stay, StayState, said_of, is_that, at_number, Install, Reserved}
use Rattle.hotel_model.proofs.Names.{Cancelled, Issue, CheckOut, History, start, ◌▷◌, registered, rooms, stays}
use Rattle.hotel_model.proofs.Names.{in_state, now_is, room_row, rows_of, room_of_state, is_of_kind, Reached}
use Rattle.hotel_model.proofs.Names.{is_home_of, parties_in_house}
use Rattle.hotel_nights.specs.declared.stay.StayState.TheVariants as state
use Rattle.hotel_model.proofs.OfTables.Tests.{eq_from, eq_self, not_both}
use Rattle.hotel_model.proofs.OfTables.TableKeys.{row_inserted, row_kept, no_key}
use Rattle.hotel_model.proofs.{Facts.Follow.OrAtHome, OfTables.StayStates.stay_changed, OfTables.StayStates.home_of}
use Rattle.hotel_model.proofs.{OfTables.Grown.may_follow, Invariants.InHouse.registered_in_house}
use Rattle.hotel_model.proofs.{OfTables.RowTests.both, SoundRows.SoundRoomRows.each_room_is}
use Rattle.hotel_model.proofs.{Starts.StartGuests.homes_of_kind_at_start}

-- the room is there, and of this kind
abbrev pub room_of_kind : List (ℕ × List ℕ) → ℕ → List ℕ → Bool
room_of_kind all room kind = said_of (at_number all room) false (λ k. bytes_eq k kind)

-- The room of each stay in house is there, and of the stay's kind.
abbrev pub HomesOfKind : History → Type 0
HomesOfKind h = (p r : ℕ) (stay : Stay) → at_number (stays h) p ≡ Some stay → room_of_state stay.state ≡ Some r
    → room_of_kind (rooms h) r stay.kind ≡ true

still_of_kind : (all : List (ℕ × List ℕ)) (room : ℕ) (added : List ℕ) (r : ℕ) (kind : List ℕ) (o : Option (List ℕ))
    → at_number all room ≡ None → at_number all r ≡ o
    → said_of o false (λ k. bytes_eq k kind) ≡ true → room_of_kind (insert_entry nat_cmp all room added) r kind ≡ true
still_of_kind all room added r kind (Some k) n e t =
    ap (λ z. said_of z false (λ x. bytes_eq x kind)) (row_kept all room added k r n e) ∙ t
still_of_kind all room added r kind None n e t = not_both false t refl

no_room : (r : ℕ) → ◌≡◌ {A = Option ℕ} None (Some r) → ⊥
no_room r e = cc

state_changed : (b : Bool) (s : StayState) (o : Option Stay) (stay : Stay)
    → cond b (option_map (now_is s) o) o ≡ Some stay
    → ((b ≡ true) × ((old : Stay) × (o ≡ Some old) × (now_is s old ≡ stay))) ⊎ (o ≡ Some stay)
state_changed true s (Some old) stay e = inl (refl, (old, refl, cc))
state_changed true s None stay e = cc
state_changed false s o stay e = inr e

-- after a stay changed its state
changed_of_kind : (h : History) (party : ℕ) (s : StayState) → HomesOfKind h → ((old : Stay) (r : ℕ)
    → at_number (stays h) party ≡ Some old → room_of_state s ≡ Some r → room_of_kind (rooms h) r old.kind ≡ true)
    → (p r : ℕ) (stay : Stay) → at_number (in_state party s (stays h)) p ≡ Some stay → room_of_state stay.state ≡ Some r
    → room_of_kind (rooms h) r stay.kind ≡ true
changed_of_kind h party s ih new p r stay e home =
    elim (state_changed (party == p) s (at_number (stays h) p) stay (sym (stay_changed party s (stays h) p) ∙ e)) [
      | inl q ↦
          let old = q.1 in
          ap (λ (x : Stay). room_of_kind (rooms h) r x.kind) (sym old.2)
          ∙ new old.0 r (ap (at_number (stays h)) (eq_from party p q.0)
          ∙ old.1) (ap (λ (x : Stay). room_of_state x.state) old.2 ∙ home)
      | inr f ↦ ih p r stay f home
    ]

-- what the check of the kind says of a stay and a room
kind_checked : (o : Option Stay) (old : Stay) (all : List (ℕ × List ℕ)) (room : ℕ) → o ≡ Some old
    → said_of o false (λ stay. said_of (at_number all room) false (λ kind. bytes_eq kind stay.kind)) ≡ true
    → room_of_kind all room old.kind ≡ true
kind_checked o old all room e t =
    ap (λ z. said_of z false (λ stay. said_of (at_number all room) false (λ kind. bytes_eq kind stay.kind))) (sym e) ∙ t

homed : (h : History) (party room : ℕ) → HomesOfKind h → OrAtHome h party room (is_of_kind h room party ≡ true)
    → (old : Stay) (r : ℕ) → at_number (stays h) party ≡ Some old → room_of_state (state.InHouse room) ≡ Some r
    → room_of_kind (rooms h) r old.kind ≡ true
homed h party room ih (inl t) old r e home =
    let same : room ≡ r = cc in subst (λ z. room_of_kind (rooms h) z old.kind ≡ true) same
    (kind_checked (at_number (stays h) party) old (rooms h) room e t)
homed h party room ih (inr at_home) old r e home =
    let same : room ≡ r = cc in
    ih party r old e
    (ap (λ o. said_of o None (λ (x : Stay). room_of_state x.state)) (sym e) ∙ at_home ∙ ap (λ z. Some z) same)

pub homes_of_kind : (h : History) → Reached h → HomesOfKind h
homes_of_kind (start t) ok p r stay e home = homes_of_kind_at_start t ok p r stay e home
homes_of_kind (h ▷ Install room kind code) ok p r stay e home =
    still_of_kind (rooms h) room kind r stay.kind (at_number (rooms h) r)
    (no_key (rooms h) room (may_follow h (Install room kind code) ok).1) refl (homes_of_kind h ok.0 p r stay e home)
homes_of_kind (h ▷ Reserved party guest kind arrive depart) ok p r stay e home =
    elim (row_inserted (stays h) party _ stay p e) [
      | inl q ↦ absurd (no_room r (ap (λ (x : Stay). room_of_state x.state) q.1 ∙ home))
      | inr f ↦ homes_of_kind h ok.0 p r stay f home
    ]
homes_of_kind (h ▷ Cancelled party) ok p r stay e home =
    changed_of_kind h party state.Cancelled (homes_of_kind h ok.0) (λ old r e n. absurd (no_room r n)) p r stay e home
homes_of_kind (h ▷ CheckOut party) ok p r stay e home =
    changed_of_kind h party state.Done (homes_of_kind h ok.0) (λ old r e n. absurd (no_room r n)) p r stay e home
homes_of_kind (h ▷ Issue party room number code) ok p r stay e home =
    changed_of_kind h party (state.InHouse room) (homes_of_kind h ok.0)
    (homed h party room (homes_of_kind h ok.0) (may_follow h (Issue party room number code) ok).3) p r stay e home
homes_of_kind (h ▷ _) ok p r stay e home = homes_of_kind h ok.0 p r stay e home

-- a party in house has a stay there
pub stay_of_home : (o : Option Stay) (r : ℕ)
    → home_of o ≡ Some r → (stay : Stay) × (o ≡ Some stay) × (room_of_state stay.state ≡ Some r)
stay_of_home (Some stay) r e = (stay, refl, e)
stay_of_home None r e = cc

of_kind_listed : (o : Option (List ℕ)) (k kind : List ℕ)
    → o ≡ Some k → said_of o false (λ x. bytes_eq x kind) ≡ true → bytes_eq k kind ≡ true
of_kind_listed o k kind e t = ap (λ z. said_of z false (λ x. bytes_eq x kind)) (sym e) ∙ t

home_tested : (h : History) → Reached h → (r : ℕ) (kind : List ℕ) → at_number (rooms h) r ≡ Some kind → (o : Option ℕ)
    → registered h r ≡ o → said_of o true (is_home_of (rows_of h) (room_row h r kind)) ≡ true
home_tested h ok r kind e None p = refl
home_tested h ok r kind e (Some party) p =
    let s = stay_of_home (at_number (stays h) party) r ((registered_in_house h ok r party).0 p) in
    ap (λ z. said_of z false (λ (stay : Stay). is_that (room_of_state stay.state) r && bytes_eq kind stay.kind)) s.1
    ∙ both _ _ (ap (λ z. is_that z r) s.2 ∙ eq_self r)
    (of_kind_listed (at_number (rooms h) r) kind s.0.kind e (homes_of_kind h ok party r s.0 s.1 s.2))

-- A room's party is in house there, and booked its kind.
pub parties_at_home : (h : History) → Reached h → parties_in_house (rows_of h) ≡ true
parties_at_home h ok = each_room_is h ok _ (λ r kind e. home_tested h ok r kind e (registered h r) refl)
