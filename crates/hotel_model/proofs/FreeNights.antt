-- A kind is free for some nights as often as bookings of it are accepted.
use Rattle.std.proofs.Common.{ℕ, zero, suc, ◌≡◌, ◌≤◌, ◌<◌, ◌+◌, ◌-◌, ◌↔◌, Bool, true, false, cond, Option, Some, None}
use Rattle.std.proofs.Common.{List, [], ◌∷◌, refl, ap, sym, ◌∙◌, subst, arith, ◌||◌, ◌&&◌, not, nat_le, nat_lt, is_some}
use Rattle.std.proofs.Common.{option_map}
use Rattle.std.proofs.lemmas.Bool.{leb-false}
use Rattle.hotel_nights.specs.declared.stay.Stay.{Stay}
use Rattle.hotel_nights.specs.declared.stay.StayState.TheVariants as state
use Rattle.hotel_model.specs.declared.command.Command.TheVariants as command
use Rattle.hotel_model.specs.declared.reply.Reply.TheVariants as reply
use Rattle.hotel_model.specs.declared.reply.Refusal.TheVariants.{PastArrival, PastEnd}
use Rattle.hotel_model.specs.{Words.greatest, Lists.are_ahead, Lists.free}
use Rattle.hotel_model.specs.FurtherLaws.{BookingsTakeOne, FreeIsKept, refuses_nights}
use Rattle.hotel_model.proofs.Names.{nat_tests, bytes_eq-Decides, first_day, nights_taken, takes}
use Rattle.hotel_model.proofs.Names.{NotBegun, NoKind, KindFull, NumbersUsedUp, Event, Reserved, Outcome}
use Rattle.hotel_model.proofs.Names.{accepted, bars, needs, unless, answer_to, said_of, History, ◌▷◌, day}
use Rattle.hotel_model.proofs.Names.{stays, nights, rooms_of, first_full, is_begun, is_kind, next_party, Reached}
use Rattle.hotel_model.proofs.Names.{parties_used_up}
use Rattle.hotel_model.proofs.OfTables.Tests.{le_tested, lt_tested, not_both, not_le}
use Rattle.hotel_model.proofs.{OfTables.StayCounts.count_inserted, OfTables.StayCounts.passed_over}
use Rattle.hotel_model.proofs.{Invariants.Numbering.next_party_free, SoundRows.SoundKinds.begun_with_kind}

-- ---- the fullest of some nights

-- where no night is full, the fullest isn't
none_full : (taken : ℕ → ℕ) (rooms d n : ℕ) → 1 ≤ n → first_day (λ x. nat_le rooms (taken x)) d n ≡ None
    → greatest taken d n < rooms
unfolding first_day greatest
none_full taken rooms d zero one none = absurd (omega arith)
none_full taken rooms d (suc zero) one none =
    let p = passed_over (nat_le rooms (taken d)) d None none in
    let here : taken d < rooms = leb-false rooms (taken d) p.0 in
    omega (arith, here)
none_full taken rooms d (suc (suc n)) one none =
    let p = passed_over (nat_le rooms (taken d)) d (first_day (λ x. nat_le rooms (taken x)) (suc d) (suc n)) none in
    let here : taken d < rooms = leb-false rooms (taken d) p.0 in
    let later = none_full taken rooms (suc d) (suc n) (omega arith) p.1 in
    omega (arith, here, later)

-- and where the fullest isn't full, none is
fullest_is_not : (taken : ℕ → ℕ) (rooms d n : ℕ) → greatest taken d n < rooms
    → first_day (λ x. nat_le rooms (taken x)) d n ≡ None
unfolding first_day greatest
fullest_is_not taken rooms d zero lt = refl
fullest_is_not taken rooms d (suc n) lt =
    let here : nat_le rooms (taken d) ≡ false = not_le rooms (taken d) (omega (arith, lt)) in
    let later = fullest_is_not taken rooms (suc d) n (omega (arith, lt)) in
    ap (λ b. cond b (Some d) (first_day (λ x. nat_le rooms (taken x)) (suc d) n)) here ∙ later

full_by_fullest : (h : History) (kind : List ℕ) (d n : ℕ) → 1 ≤ n
    → (first_full h kind d n ≡ None) ↔ (greatest (nights h kind) d n < rooms_of h kind)
full_by_fullest h kind d n one = (
  none_full (nights h kind) (rooms_of h kind) d n one,
  fullest_is_not (nights h kind) (rooms_of h kind) d n,
)

-- ---- the answer to a booking

-- the checks of a booking and what comes of it, by what they ask
abbrev booked_if : Bool → Bool → Bool → Bool → Option ℕ → Bool → ℕ → Event → Outcome Event
booked_if begun there early late full used_up party event =
    unless (needs begun NotBegun ∷ needs there NoKind ∷ bars early PastArrival ∷ bars late PastEnd
    ∷ option_map KindFull full ∷ bars used_up NumbersUsedUp ∷ [])
    (accepted (reply.Reserved party) event)

refused_by : (early late : Bool) (full : Option ℕ) (used_up : Bool) (party : ℕ) (event : Event)
    → refuses_nights (booked_if true true early late full used_up party event).reply ≡ (early || (late || is_some full))
refused_by true late full used_up party event = refl
refused_by false true full used_up party event = refl
refused_by false false (Some night) used_up party event = refl
refused_by false false None true party event = refl
refused_by false false None false party event = refl

accepted_by : (begun there early late : Bool) (full : Option ℕ) (used_up : Bool) (party : ℕ) (made event : Event)
    → (booked_if begun there early late full used_up party made).happens ≡ Some event
    → (begun ≡ true) × (early ≡ false) × (late ≡ false) × (full ≡ None) × (made ≡ event)
accepted_by true true false false None false party made event e =
    let same : Some made ≡ Some event = e in (refl, refl, refl, refl, cc)
accepted_by true true false false None true party made event e = cc
accepted_by true true false false (Some night) used_up party made event e = cc
accepted_by true true false true full used_up party made event e = cc
accepted_by true true true late full used_up party made event e = cc
accepted_by true false early late full used_up party made event e = cc
accepted_by false there early late full used_up party made event e = cc

-- ---- what is free

other_way : (a b : ℕ) → nat_lt a b ≡ not (nat_le b a)
other_way a b = by (nat_le b a) refl
  where
    by : (t : Bool) → nat_le b a ≡ t → nat_lt a b ≡ not t
    by true e = grind (arith, nat_tests)
    by false e = grind (arith, nat_tests)

free_by : (a b : Bool) (full : Option ℕ) (rooms most : ℕ) → (full ≡ None) ↔ (most < rooms)
    → ((not a || (not b || is_some full)) ≡ false) ↔ (0 < cond (a && b) (rooms - most) 0)
free_by true true None rooms most same = (λ _. let lt = same.0 refl in omega (arith, lt), λ _. refl)
free_by true true (Some night) rooms most same =
    (λ e. not_both true refl e, λ lt. let none : Some night ≡ None = same.1 (omega (arith, lt)) in cc)
free_by true false full rooms most same = (λ e. not_both true refl e, λ lt. absurd (omega (arith, lt)))
free_by false b full rooms most same = (λ e. not_both true refl e, λ lt. absurd (omega (arith, lt)))

free_on_day : (o : Option ℕ) (arrive nights rooms most : ℕ) (full : Option ℕ) → is_some o ≡ true
    → (full ≡ None) ↔ (most < rooms)
    → ((nat_lt arrive (said_of o 0 (λ t. t)) || (nat_lt 36524 (arrive + nights) || is_some full)) ≡ false)
    ↔ (0 < cond (are_ahead o arrive nights) (rooms - most) 0)
free_on_day (Some today) arrive nights rooms most full set same =
    let early = other_way arrive today in
    let late = other_way 36524 (arrive + nights) in
    let by = free_by (nat_le today arrive) (nat_le (arrive + nights) 36524) full rooms most same in
    subst (λ b. (b ≡ false) ↔ (0 < cond (are_ahead (Some today) arrive nights) (rooms - most) 0))
    (sym (λ i. early i || (late i || is_some full))) by
free_on_day None arrive nights rooms most full set same = cc

pub free_is_kept : FreeIsKept
unfolding answer_to
free_is_kept h ahead guest kind arrive n ok there one =
    let begun = begun_with_kind h ok kind there in
    let full = first_full h kind arrive n in
    let event = Reserved (next_party h) guest kind arrive (arrive + n) in
    let same : refuses_nights (answer_to h ahead (command.Reserve guest kind arrive n)).reply
    ≡ (nat_lt arrive (said_of (day h) 0 (λ t. t)) || (nat_lt 36524 (arrive + n) || is_some full)) =
    (λ i. refuses_nights (booked_if (begun i) (there i) (nat_lt arrive (said_of (day h) 0 (λ t. t)))
    (nat_lt 36524 (arrive + n)) full (parties_used_up h) (next_party h) event).reply)
    ∙ refused_by (nat_lt arrive (said_of (day h) 0 (λ t. t))) (nat_lt 36524 (arrive + n)) full (parties_used_up h)
    (next_party h) event in
    subst (λ b. (b ≡ false) ↔ (0 < free h kind arrive n)) (sym same)
    (free_on_day (day h) arrive n (rooms_of h kind) (greatest (nights h kind) arrive n) full begun
    (full_by_fullest h kind arrive n one))

-- ---- after one more booking

-- each of the nights is taken once more
greatest_more : (taken later : ℕ → ℕ) (d n : ℕ)
    → ((x : ℕ) → d ≤ x → x < d + suc n → later x ≡ taken x + 1)
    → greatest later d (suc n) ≡ greatest taken d (suc n) + 1
unfolding greatest
greatest_more taken later d zero more =
    let here : later d ≡ taken d + 1 = more d (omega arith) (omega arith) in omega (arith, here)
greatest_more taken later d (suc n) more =
    let here : later d ≡ taken d + 1 = more d (omega arith) (omega arith) in
    let rest : greatest later (suc d) (suc n) ≡ greatest taken (suc d) (suc n) + 1 =
    greatest_more taken later (suc d) n (λ x le lt. more x (omega arith) (omega arith)) in
    omega (arith, here, rest)

one_or_more : (n : ℕ) → 1 ≤ n → (m : ℕ) × (n ≡ suc m)
one_or_more zero one = absurd (omega arith)
one_or_more (suc m) one = (m, refl)

module _ (h : History) (ok : Reached h) (guest kind : List ℕ) (arrive n : ℕ) where
  abbrev booked : Stay
  booked = record {
    party = next_party h;
    guest = guest;
    kind = kind;
    arrive = arrive;
    depart = arrive + n;
    state = state.Booked;
  }

  abbrev event : Event
  event = Reserved (next_party h) guest kind arrive (arrive + n)

  night_more : (x : ℕ) → arrive ≤ x → x < arrive + n → nights (h ▷ event) kind x ≡ nights h kind x + 1
  unfolding nights_taken
  night_more x le lt =
      let it_takes : takes kind x booked ≡ true =
      (λ i. (bytes_eq-Decides kind kind).1 refl i && (le_tested arrive x le i && lt_tested x (arrive + n) lt i)) in
      let counted = count_inserted (takes kind x) (stays h) (next_party h) booked (next_party_free h ok) in
      let one : ◌≡◌ {A = ℕ} (cond (takes kind x booked) 1 0) 1 = ap (λ b. cond b 1 0) it_takes in
      omega (arith, counted, one)

  fullest_more : 1 ≤ n → greatest (nights (h ▷ event) kind) arrive n ≡ greatest (nights h kind) arrive n + 1
  fullest_more one =
      let m = one_or_more n one in
      subst (λ k. greatest (nights (h ▷ event) kind) arrive k ≡ greatest (nights h kind) arrive k + 1) (sym m.1)
      (greatest_more (nights h kind) (nights (h ▷ event) kind) arrive m.0
      (λ x le lt. night_more x le (subst (λ k. x < arrive + k) (sym m.1) lt)))

-- nights that begin on the business day or later, and end in the calendar
ahead_by : (o : Option ℕ) (arrive n : ℕ) → is_some o ≡ true → nat_lt arrive (said_of o 0 (λ t. t)) ≡ false
    → nat_lt 36524 (arrive + n) ≡ false → are_ahead o arrive n ≡ true
ahead_by (Some today) arrive n set early late = (λ i.
    le_tested today arrive (grind (arith, nat_tests)) i && le_tested (arrive + n) 36524 (grind (arith, nat_tests)) i)
ahead_by None arrive n set early late = cc

left_by : (b : Bool) (rooms most later : ℕ) → b ≡ true → most < rooms → later ≡ most + 1
    → cond b (rooms - most) 0 ≡ cond b (rooms - later) 0 + 1
left_by true rooms most later e lt more = omega (arith, lt, more)
left_by false rooms most later e lt more = cc

pub bookings_take_one : BookingsTakeOne
unfolding answer_to
bookings_take_one h ahead guest kind arrive n happened ok one e =
    let it = accepted_by (is_begun h) (is_kind h kind) (nat_lt arrive (said_of (day h) 0 (λ t. t)))
    (nat_lt 36524 (arrive + n)) (first_full h kind arrive n) (parties_used_up h) (next_party h)
    (event h ok guest kind arrive n) happened e in
    let lt = (full_by_fullest h kind arrive n one).0 it.3 in
    let at = ahead_by (day h) arrive n it.0 it.1 it.2 in
    subst (λ (ev : Event). free h kind arrive n ≡ free (h ▷ ev) kind arrive n + 1) it.4
    (left_by (are_ahead (day h) arrive n) (rooms_of h kind) (greatest (nights h kind) arrive n)
    (greatest (nights (h ▷ event h ok guest kind arrive n) kind) arrive n) at lt
    (fullest_more h ok guest kind arrive n one))
