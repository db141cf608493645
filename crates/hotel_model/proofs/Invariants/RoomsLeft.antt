-- On no night are more stays of a kind than rooms.
use Rattle.std.proofs.Common.{ℕ, ◌≡◌, ◌≤◌, ◌<◌, ◌+◌, Bool, true, false, cond, Some, None, List, refl, ap, sym, ◌∙◌}
use Rattle.std.proofs.Common.{subst, arith, ◌&&◌, nat_le, nat_lt, bytes_eq, count_by}
use Rattle.hotel_model.proofs.Names.{values_of, bytes_eq-Decides, Stay, takes, is_standing, is_full, nights_taken}
use Rattle.hotel_model.proofs.Names.{said_of, at_number, Install, Reserved, Cancelled, Issue, CheckOut, History, start}
use Rattle.hotel_model.proofs.Names.{◌▷◌, stays, rooms, rooms_of, nights, now_is, first_full, Reached, rows_of}
use Rattle.hotel_model.proofs.Names.{rooms_of_kind}
use Rattle.std.proofs.lemmas.Bool.{leb-false}
use Rattle.hotel_nights.specs.declared.stay.StayState.TheVariants as state
use Rattle.hotel_model.proofs.{OfTables.Tests.and_true, OfTables.Tests.not_both, OfTables.TableKeys.no_key}
use Rattle.hotel_model.proofs.{OfTables.Grown.may_follow, Invariants.Numbering.next_party_free}
use Rattle.hotel_model.proofs.{OfTables.StayCounts.count_inserted, OfTables.StayCounts.count_changed}
use Rattle.hotel_model.proofs.{OfTables.StayCounts.none_passes, Starts.StartRows.rooms_of_start}
use Rattle.hotel_model.proofs.{Facts.Follow.stays_now, OfTables.Tests.le_from, OfTables.Tests.lt_from}
use Rattle.hotel_model.proofs.{Invariants.KindCounts.rooms_counted}

-- on no night are more stays of a kind than rooms
abbrev pub RoomsSuffice : History → Type 0
RoomsSuffice h = (kind : List ℕ) (d : ℕ) → count_by (takes kind d) (values_of (stays h)) ≤ rooms_of h kind

same_kind : (a b : List ℕ) → bytes_eq a b ≡ true → a ≡ b
same_kind a b e = (bytes_eq-Decides a b).0 e

-- a standing stay that comes into a room takes the same nights
takes_still : (kind : List ℕ) (d room : ℕ) (stay : Stay)
    → is_standing stay.state ≡ true → takes kind d (now_is (state.InHouse room) stay) ≡ true → takes kind d stay ≡ true
takes_still kind d room stay stands t =
    ap (λ b. (b && bytes_eq stay.kind kind) && (nat_le stay.arrive d && nat_lt d stay.depart)) stands ∙ t

added_by : (b : Bool) (before rooms_there after_it : ℕ)
    → after_it ≡ cond b 1 0 + before → before ≤ rooms_there → (b ≡ true → before < rooms_there) → after_it ≤ rooms_there
added_by true before rooms_there after_it e le lt = let l = lt refl in omega arith
added_by false before rooms_there after_it e le lt = omega arith

-- on a night of a booking that was accepted a room was left
left_for : (h : History) (kind : List ℕ) (arrive nights d : ℕ) → first_full h kind arrive nights ≡ None → arrive ≤ d
    → d < arrive + nights → count_by (takes kind d) (values_of (stays h)) < rooms_of h kind
unfolding nights_taken
left_for h kind arrive nights d none le lt =
    let f : is_full (values_of (stays h)) kind (rooms_of h kind) d ≡ false =
    none_passes (is_full (values_of (stays h)) kind (rooms_of h kind)) arrive nights none d le lt in
    leb-false (rooms_of h kind) (count_by (takes kind d) (values_of (stays h))) f

left_if : (h : History) (kind : List ℕ) (d party : ℕ) (guest booked : List ℕ) (arrive depart nights : ℕ)
    → depart ≡ arrive + nights → first_full h booked arrive nights ≡ None
    → takes kind d (record {
      party = party;
      guest = guest;
      kind = booked;
      arrive = arrive;
      depart = depart;
      state = state.Booked;
    }) ≡ true → count_by (takes kind d) (values_of (stays h)) < rooms_of h kind
left_if h kind d party guest booked arrive depart nights e none t =
    let p = and_true (bytes_eq booked kind) (nat_le arrive d && nat_lt d depart) t in
    let q = and_true (nat_le arrive d) (nat_lt d depart) p.1 in
    let le : arrive ≤ d = le_from arrive d q.0 in
    let lt : d < depart = lt_from d depart q.1 in
    subst (λ k. count_by (takes k d) (values_of (stays h)) < rooms_of h k) (same_kind booked kind p.0)
    (left_for h booked arrive nights d none le (omega arith))

stands_now : (h : History) (party : ℕ) (stay : Stay)
    → stays_now h party ≡ true → at_number (stays h) party ≡ Some stay → is_standing stay.state ≡ true
stands_now h party stay stands e = ap (λ o. said_of o false (λ (s : Stay). is_standing s.state)) (sym e) ∙ stands

most : (a b c : ℕ) → a ≤ b → b ≤ c → a ≤ c
most a b c s t = omega arith

more_rooms : (b : Bool) (taken rooms_there rooms_now : ℕ)
    → rooms_now ≡ cond b 1 0 + rooms_there → taken ≤ rooms_there → taken ≤ rooms_now
more_rooms true taken rooms_there rooms_now e le = omega arith
more_rooms false taken rooms_there rooms_now e le = omega arith

pub rooms_suffice : (h : History) → Reached h → RoomsSuffice h
unfolding nights_taken
rooms_suffice (start t) ok kind d =
    subst (λ n. count_by (takes kind d) (values_of t.stays) ≤ n) (rooms_of_start t kind) (ok.stay_nights kind d)
rooms_suffice (h ▷ Install room k code) ok kind d =
    more_rooms (bytes_eq k kind) _ (rooms_of h kind) _ (count_inserted (λ x. bytes_eq x kind) (rooms h) room k
    (no_key (rooms h) room (may_follow h (Install room k code) ok).1)) (rooms_suffice h ok.0 kind d)
rooms_suffice (h ▷ Reserved party guest k arrive depart) ok kind d =
    let needs = may_follow h (Reserved party guest k arrive depart) ok in
    let stay : Stay =
    record { party = party; guest = guest; kind = k; arrive = arrive; depart = depart; state = state.Booked } in
    added_by (takes kind d stay) (count_by (takes kind d) (values_of (stays h))) (rooms_of h kind) _
    (count_inserted (takes kind d) (stays h) party stay (ap (at_number (stays h)) needs.1 ∙ next_party_free h ok.0))
    (rooms_suffice h ok.0 kind d)
    (left_if h kind d party guest k arrive depart needs.2 needs.3 needs.4)
rooms_suffice (h ▷ Cancelled party) ok kind d =
    most _ _ _ (count_changed (takes kind d) party state.Cancelled (stays h) (λ stay e t. not_both false t refl))
    (rooms_suffice h ok.0 kind d)
rooms_suffice (h ▷ Issue party room number code) ok kind d =
    most _ _ _ (count_changed (takes kind d) party (state.InHouse room) (stays h)
    (λ stay e. takes_still kind d room stay
    (stands_now h party stay (may_follow h (Issue party room number code) ok).2 e))) (rooms_suffice h ok.0 kind d)
rooms_suffice (h ▷ CheckOut party) ok kind d =
    most _ _ _ (count_changed (takes kind d) party state.Done (stays h) (λ stay e t. not_both false t refl))
    (rooms_suffice h ok.0 kind d)
rooms_suffice (h ▷ _) ok kind d = rooms_suffice h ok.0 kind d

-- On no night are more stays of a kind booked and in house than the kind has rooms.
pub none_oversold : (h : History) → Reached h → (kind : List ℕ) (d : ℕ) → nights h kind d ≤ rooms_of h kind
unfolding nights_taken
none_oversold h ok kind d = rooms_suffice h ok kind d

-- and of the rows
pub rows_not_oversold : (h : History) → Reached h → (kind : List ℕ) (d : ℕ)
    → nights h kind d ≤ rooms_of_kind (rows_of h).rooms kind
rows_not_oversold h ok kind d =
    subst (λ n. nights h kind d ≤ n) (sym (rooms_counted h kind)) (none_oversold h ok kind d)
