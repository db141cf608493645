-- What a reissue leaves as it is, and where an issued code is listed.
use Rattle.std.proofs.Common.{ℕ, ◌≡◌, Bool, true, false, cond, Option, Some, None, List, [], ◌∷◌, ◌++◌, length, refl}
use Rattle.std.proofs.Common.{ap}
use Rattle.std.proofs.Common.{sym, ◌∙◌, subst, ◌==◌, option_map, is_some, nat_cmp}
use Rattle.hotel_nights.specs.declared.stay.Stay.{Stay}
use Rattle.hotel_nights.specs.declared.stay.StayState.{StayState}
use Rattle.hotel_nights.specs.declared.stay.StayState.TheVariants as state
use Rattle.hotel_model.specs.declared.command.Command.TheVariants as command
use Rattle.hotel_model.specs.declared.reply.Refusal.TheVariants.{NotBegun, NoParty, NotInHouse, NumbersUsedUp}
use Rattle.hotel_model.specs.FurtherLaws.{CodesAreListed, ReissuesKeep}
use Rattle.hotel_model.specs.Words.{said_of, when, other_than}
use Rattle.hotel_model.specs.Rows.{at_number}
use Rattle.hotel_model.specs.Event.{Event, Issue}
use Rattle.hotel_model.specs.History.{History, ◌▷◌}
use Rattle.hotel_model.specs.Issued.{all_issued, issued, issued_codes}
use Rattle.hotel_model.specs.Guests.{registered}
use Rattle.hotel_model.specs.Stays.{stays, in_state, now_is, room_of_state}
use Rattle.hotel_model.specs.Cases.{cards_used_up, is_begun, is_in_house, is_party, next_card, own_room, room_of}
use Rattle.hotel_model.specs.Outcome.{Outcome, bars, needs, unless}
use Rattle.hotel_model.specs.Answer.{answer_to}
use Rattle.hotel_model.specs.Run.{Reached}
use Rattle.keycard_rules.specs.Draw.{draw_from}
use Rattle.std.specs.BTreeMap.{is_at}
use Rattle.hotel_model.proofs.{Invariants.CodePlaces.codes_have_places, Invariants.CodePlaces.places_have_codes}
use Rattle.hotel_model.proofs.{Invariants.InHouse.homes_match, Invariants.Homes.not_leaving}
use Rattle.hotel_model.proofs.{OfTables.Tests.eq_from, OfTables.Tests.eq_self, OfTables.TableKeys.at_is}

pub codes_are_listed : CodesAreListed
codes_are_listed h ok code row = (places_have_codes h ok code row, λ there. listed there.0 there.1 there.2 there.3)
  where
    listed : (before later : List ℕ) → issued h row.room ≡ before ++ code ∷ later → length before ≡ row.place
        → at_number (all_issued h) code ≡ Some row
    listed before later stands place = codes_have_places h ok row.room before code later stands
        ∙ ap (λ n. Some (record { room = row.room; place = n })) place

-- what happens of a command with the checks of a further card: its party is in house
passed : (a b c d : Bool) (otherwise : Outcome Event) (event : Event)
    → (unless (needs a NotBegun ∷ needs b NoParty ∷ needs c NotInHouse ∷ bars d NumbersUsedUp ∷ []) otherwise).happens
    ≡ Some event
    → (c ≡ true) × (otherwise.happens ≡ Some event)
passed true true true false otherwise event e = (refl, e)
passed true true true true otherwise event e = cc
passed true true false d otherwise event e = cc
passed true false c d otherwise event e = cc
passed false b c d otherwise event e = cc

by_code : (with_code : ℕ → Event) (o : Option ℕ) (event : Event) → option_map with_code o ≡ Some event
    → (code : ℕ) × (event ≡ with_code code)
by_code with_code (Some code) event e = (code, let same : Some (with_code code) ≡ Some event = e in cc)
by_code with_code None event e = cc

happened : (h : History) (ahead : List ℕ) (party : ℕ) (event : Event)
    → (answer_to h ahead (command.Reissue party)).happens ≡ Some event
    → (is_in_house h party ≡ true)
    × ((code : ℕ) × (event ≡ Issue party (own_room h party) (next_card h) code))
unfolding answer_to
happened h ahead party event e =
    let it = passed (is_begun h) (is_party h party) (is_in_house h party) (cards_used_up h) _ event e in (
      it.0,
      by_code (λ code. Issue party (own_room h party) (next_card h) code) (draw_from (issued_codes h) ahead).code event
          it.1,
    )

-- a party that is in house is in a room, its own
own_by : (o : Option ℕ) → is_some o ≡ true → o ≡ Some (said_of o 0 (λ room. room))
own_by (Some room) t = refl
own_by None t = cc

in_house_at : (s : StayState) (room : ℕ) → room_of_state s ≡ Some room → s ≡ state.InHouse room
in_house_at state.Booked room e = cc
in_house_at (state.InHouse at) room e = let same : Some at ≡ Some room = e in cc
in_house_at state.Done room e = cc
in_house_at state.Cancelled room e = cc

-- a stay that is in this state, as it is put in it
same_stay : (s : StayState) (stay : Stay) → stay.state ≡ s → now_is s stay ≡ stay
same_stay s stay e = ap (λ x. now_is x stay) (sym e)

home_in : (o : Option Stay) (room : ℕ) → said_of o None (λ stay. room_of_state stay.state) ≡ Some room
    → (stay : Stay) → o ≡ Some stay → stay.state ≡ state.InHouse room
home_in (Some it) room home stay e =
    let same : it ≡ stay = cc in
    in_house_at stay.state room (ap (λ (x : Stay). room_of_state x.state) (sym same) ∙ home)
home_in None room home stay e = cc

-- the stays, where the one that changes its state is in it
same_stays : (party : ℕ) (s : StayState) (es : List (ℕ × Stay))
    → ((stay : Stay) → at_number es party ≡ Some stay → stay.state ≡ s) → in_state party s es ≡ es
same_stays party s [] so = refl
same_stays party s (e ∷ es) so = by (e.0 == party) refl (λ later. same_stays party s es later)
  where
    by : (b : Bool) → (e.0 == party) ≡ b
        → (((stay : Stay) → at_number es party ≡ Some stay → stay.state ≡ s) → in_state party s es ≡ es)
        → cond b ((e.0, now_is s e.1) ∷ es) (e ∷ in_state party s es) ≡ e ∷ es
    by true t rest =
        let here : is_at (nat_cmp party) e.0 ≡ true = at_is party e.0 ∙ t in
        let stands : at_number (e ∷ es) party ≡ Some e.1 =
        ap (λ b. cond b (Some e.1) (at_number es party)) here in
        ap (λ (x : Stay). (e.0, x) ∷ es) (same_stay s e.1 (so e.1 stands))
    by false f rest =
        let other : is_at (nat_cmp party) e.0 ≡ false = at_is party e.0 ∙ f in
        ap (λ xs. e ∷ xs) (rest (λ stay found. so stay
        (ap (λ b. cond b (Some e.1) (at_number es party)) other ∙ found)))

module _ (h : History) (ok : Reached h) (party room : ℕ) (home : room_of h party ≡ Some room) where
  still_registered : (r : ℕ) → when (room == r) (λ _. Some party) (other_than party (registered h r)) ≡ registered h r
  still_registered r = by (room == r) refl
    where
      by : (b : Bool) → (room == r) ≡ b
          → when b (λ _. Some party) (other_than party (registered h r)) ≡ registered h r
      by true t = sym ((homes_match h ok).back r party (home ∙ ap (λ x. Some x) (eq_from room r t)))
      by false f = not_leaving party (registered h r) (λ at.
          let there : room_of h party ≡ Some r = (homes_match h ok).forth r party at in
          let two : Some room ≡ Some r = sym home ∙ there in
          let same : room ≡ r = cc in
          let yes : (room == r) ≡ true = ap (λ x. room == x) (sym same) ∙ eq_self room in
          cc)

  stays_same : in_state party (state.InHouse room) (stays h) ≡ stays h
  stays_same = same_stays party (state.InHouse room) (stays h)
      (λ stay found. home_in (at_number (stays h) party) room home stay found)

pub reissues_keep : ReissuesKeep
reissues_keep h ahead party event ok e =
    let it = happened h ahead party event e in
    let room = own_room h party in
    let home : room_of h party ≡ Some room = own_by (room_of h party) it.0 in
    subst (λ (ev : Event). ((r : ℕ) → registered (h ▷ ev) r ≡ registered h r) × (stays (h ▷ ev) ≡ stays h))
    (sym it.1.1) (still_registered h ok party room home, stays_same h ok party room home)
