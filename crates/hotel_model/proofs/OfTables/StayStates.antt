-- Look-ups of stays after one of them changed its state.
use Rattle.std.proofs.Common.{ℕ, ◌≡◌, Bool, true, false, cond, Option, Some, None, List, [], ◌∷◌, refl, ap, sym, ◌∙◌}
use Rattle.std.proofs.Common.{◌==◌, option_map, is_some, nat_cmp}
use Rattle.hotel_model.proofs.Names.{is_at, insert_entry, Stay, StayState, said_of, at_number, in_state, now_is}
use Rattle.hotel_model.proofs.Names.{room_of_state, is_booked_state, is_standing}
use Rattle.hotel_nights.specs.declared.stay.StayState.TheVariants as state
use Rattle.hotel_model.proofs.{OfTables.Numbered.true_is_not_false, OfTables.Numbered.at_inserted}
use Rattle.hotel_model.proofs.{OfTables.Tests.eq_from, OfTables.TableKeys.at_is}

-- the room of a stay in house
abbrev pub home_of : Option Stay → Option ℕ
home_of stay = said_of stay None (λ s. room_of_state s.state)

changed_by : (here at same : Bool) (s : StayState) (stay : Stay) (rest later : Option Stay)
    → (here ≡ true → at ≡ same) → (here ≡ false → at ≡ true → same ≡ false)
    → later ≡ cond same (option_map (now_is s) rest) rest
    → cond here (cond at (Some (now_is s stay)) rest) (cond at (Some stay) later)
    ≡ cond same (option_map (now_is s) (cond at (Some stay) rest)) (cond at (Some stay) rest)
changed_by true true true s stay rest later f g ih = refl
changed_by true true false s stay rest later f g ih = let w : ◌≡◌ {A = Bool} true false = f refl in cc
changed_by true false true s stay rest later f g ih = let w : ◌≡◌ {A = Bool} false true = f refl in cc
changed_by true false false s stay rest later f g ih = refl
changed_by false true true s stay rest later f g ih = let w : ◌≡◌ {A = Bool} true false = g refl refl in cc
changed_by false true false s stay rest later f g ih = refl
changed_by false false true s stay rest later f g ih = ih
changed_by false false false s stay rest later f g ih = ih

one_of_two : (b : Bool) (party : ℕ) (s : StayState) (p : ℕ) (e : ℕ × Stay) (es : List (ℕ × Stay))
    → at_number (cond b ((e.0, now_is s e.1) ∷ es) (e ∷ in_state party s es)) p
    ≡ cond b (cond (is_at (nat_cmp p) e.0) (Some (now_is s e.1)) (at_number es p))
    (cond (is_at (nat_cmp p) e.0) (Some e.1) (at_number (in_state party s es) p))
one_of_two true party s p e es = refl
one_of_two false party s p e es = refl

not_that : (party k p : ℕ) → (k == party) ≡ false → (k == p) ≡ true → (party == p) ≡ false
not_that party k p f t = by (party == p) refl
  where
    by : (b : Bool) → (party == p) ≡ b → (party == p) ≡ false
    by true e = absurd (true_is_not_false (ap (λ z. k == z) (eq_from party p e) ∙ t) f)
    by false e = e

-- what a look-up of a stay finds, after the one of a party changed its state
pub stay_changed : (party : ℕ) (s : StayState) (es : List (ℕ × Stay)) (p : ℕ)
    → at_number (in_state party s es) p ≡ cond (party == p) (option_map (now_is s) (at_number es p)) (at_number es p)
stay_changed party s [] p = by (party == p)
  where
    by : (b : Bool) → ◌≡◌ {A = Option Stay} None (cond b None None)
    by true = refl
    by false = refl
stay_changed party s (e ∷ es) p =
    one_of_two (e.0 == party) party s p e es
    ∙ changed_by (e.0 == party) (is_at (nat_cmp p) e.0) (party == p) s e.1 (at_number es p)
    (at_number (in_state party s es) p)
    (λ t. at_is p e.0 ∙ ap (λ z. z == p) (eq_from e.0 party t))
    (λ f t. not_that party e.0 p f (sym (at_is p e.0) ∙ t))
    (stay_changed party s es p)

home_by : (b : Bool) (s : StayState) (o : Option Stay)
    → home_of (cond b (option_map (now_is s) o) o) ≡ cond b (home_of (option_map (now_is s) o)) (home_of o)
home_by true s o = refl
home_by false s o = refl

home_now : (s : StayState) (o : Option Stay) → is_some o ≡ true → home_of (option_map (now_is s) o) ≡ room_of_state s
home_now s (Some stay) h = refl
home_now s None h = cc

same_there : (b : Bool) (s : StayState) (party p : ℕ) (es : List (ℕ × Stay)) (rest : Option ℕ)
    → (b ≡ true → party ≡ p) → is_some (at_number es party) ≡ true
    → cond b (home_of (option_map (now_is s) (at_number es p))) rest ≡ cond b (room_of_state s) rest
same_there true s party p es rest e h =
    home_now s (at_number es p) (ap (λ z. is_some (at_number es z)) (sym (e refl)) ∙ h)
same_there false s party p es rest e h = refl

-- the room of a party in house, after the stay of one changed its state
pub home_changed : (party : ℕ) (s : StayState) (es : List (ℕ × Stay)) (p : ℕ) → is_some (at_number es party) ≡ true
    → home_of (at_number (in_state party s es) p) ≡ cond (party == p) (room_of_state s) (home_of (at_number es p))
home_changed party s es p h =
    ap home_of (stay_changed party s es p) ∙ home_by (party == p) s (at_number es p)
    ∙ same_there (party == p) s party p es (home_of (at_number es p)) (eq_from party p) h

added_by : (b : Bool) (stay : Stay) (o : Option Stay)
    → home_of (cond b (Some stay) o) ≡ cond b (room_of_state stay.state) (home_of o)
added_by true stay o = refl
added_by false stay o = refl

-- the room of a party in house, after a stay was added
pub home_added : (party : ℕ) (stay : Stay) (es : List (ℕ × Stay)) (p : ℕ)
    → home_of (at_number (insert_entry nat_cmp es party stay) p)
    ≡ cond (party == p) (room_of_state stay.state) (home_of (at_number es p))
home_added party stay es p = ap home_of (at_inserted es party stay p) ∙ added_by (party == p) stay (at_number es p)

booked_by : (s : StayState) → is_booked_state s ≡ true → room_of_state s ≡ None
booked_by state.Booked h = refl
booked_by _ h = cc

booked_stands : (s : StayState) → is_booked_state s ≡ true → is_standing s ≡ true
booked_stands state.Booked h = refl
booked_stands (state.InHouse room) h = refl
booked_stands state.Done h = cc
booked_stands state.Cancelled h = cc

home_stands : (s : StayState) → is_some (room_of_state s) ≡ true → is_standing s ≡ true
home_stands state.Booked h = refl
home_stands (state.InHouse room) h = refl
home_stands state.Done h = cc
home_stands state.Cancelled h = cc

-- a booked stay stands
pub stands_booked : (o : Option Stay) → said_of o false (λ stay. is_booked_state stay.state) ≡ true
    → said_of o false (λ stay. is_standing stay.state) ≡ true
stands_booked (Some stay) h = booked_stands stay.state h
stands_booked None h = h

-- a stay in house stands
pub stands_home : (o : Option Stay)
    → is_some (home_of o) ≡ true → said_of o false (λ stay. is_standing stay.state) ≡ true
stands_home (Some stay) h = home_stands stay.state h
stands_home None h = h

-- a booked party is in no room
pub booked_has_no_home : (o : Option Stay)
    → said_of o false (λ stay. is_booked_state stay.state) ≡ true → home_of o ≡ None
booked_has_no_home (Some stay) h = booked_by stay.state h
booked_has_no_home None h = refl
