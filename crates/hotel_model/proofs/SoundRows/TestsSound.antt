-- Rows are sound exactly where they pass the test of all rules: a night that is fullest is the first of a stay.
use Rattle.std.proofs.Common.{ℕ, zero, suc, ◌≡◌, ◌≤◌, Bool, true, false, cond, List, [], ◌∷◌, refl, sym, ◌∙◌, subst}
use Rattle.std.proofs.Common.{arith, ◌==◌, ◌&&◌, ◌||◌, bytes_eq, nat_le, nat_lt, count_by}
use Rattle.hotel_model.proofs.Names.{list_any, list_all, values_of, nat_tests, bytes_eq-Decides, Stay, takes}
use Rattle.hotel_model.proofs.Names.{is_standing, Rows, day_in_range, day_before_kinds, kinds_read, room_numbers}
use Rattle.hotel_model.proofs.Names.{lock_places, room_kinds_there, codes_few, note_counts, parties_in_house}
use Rattle.hotel_model.proofs.Names.{secured_hold_last, stay_numbers, guests_read, stay_kinds_there, stay_days}
use Rattle.hotel_model.proofs.Names.{stay_rooms, nights_fit, nights_taken, rooms_of_kind, codes_in_range}
use Rattle.hotel_model.proofs.Names.{code_rooms_there, places_once, card_numbers, card_parties_there}
use Rattle.hotel_model.proofs.Names.{links_are_neighbours}
use Rattle.hotel_model.proofs.Names.{links_of_one_party, neighbours_are_links, newest_of_party, last_cards_newest}
use Rattle.hotel_model.proofs.Names.{insides_fit, notes_counted, notes_fit, IsSound, passes_rules, fits_without_links}
use Rattle.hotel_model.proofs.Names.{notes_of_fits, fit_rooms_there, fit_numbers, first_fits, fit_places_rise}
use Rattle.hotel_model.proofs.Names.{fit_notes_rise, last_fits_held, last_fits_noted, fit_notes_few, rows_of_last_fits}
use Rattle.hotel_nights.specs.FullNight.{is_of_kind}
use Rattle.hotel_model.proofs.{OfTables.Tests.eq_from, OfTables.Tests.le_from, OfTables.Tests.and_true}
use Rattle.hotel_model.proofs.{OfTables.Tests.or_false}
use Rattle.hotel_model.proofs.{OfTables.Tests.not_both, Invariants.KindCounts.count_more}
use Rattle.hotel_model.proofs.{OfTables.RowTests.both, OfTables.Tests.le_tested}

-- on a night, a kind isn't taken by more stays than it has rooms
abbrev NightFits : Rows → List ℕ → ℕ → Type 0
NightFits rows kind d = nights_taken (values_of rows.stays) kind d ≤ rooms_of_kind rows.rooms kind

-- the same of the first night of a stay
abbrev first_night_fits : Rows → ℕ × Stay → Bool
first_night_fits rows e =
    nat_le (nights_taken (values_of rows.stays) e.1.kind e.1.arrive) (rooms_of_kind rows.rooms e.1.kind)

-- each first night of a stay fits, where all nights do
begins_by : (rows : Rows) → ((kind : List ℕ) (d : ℕ) → NightFits rows kind d) → (es : List (ℕ × Stay))
    → list_all (first_night_fits rows) es ≡ true
begins_by rows fit [] = refl
begins_by rows fit (e ∷ es) = both _ _ (le_tested _ _ (fit e.1.kind e.1.arrive)) (begins_by rows fit es)

pub nights_pass : (rows : Rows) → ((kind : List ℕ) (d : ℕ) → NightFits rows kind d) → nights_fit rows ≡ true
nights_pass rows fit = begins_by rows fit rows.stays

-- the stay takes the night, and it is its first
abbrev begins : List ℕ → ℕ → ℕ × Stay → Bool
begins kind d e = takes kind d e.1 && (e.1.arrive == d)

-- where a stay begins on the night, the night fits
begun_fits : (rows : Rows) (kind : List ℕ) (d : ℕ) (es : List (ℕ × Stay)) → list_all (first_night_fits rows) es ≡ true
    → list_any (begins kind d) es ≡ true → NightFits rows kind d
begun_fits rows kind d [] all any = not_both false any refl
begun_fits rows kind d (e ∷ es) all any =
    let p = and_true (first_night_fits rows e) (list_all (first_night_fits rows) es) all in
    by (begins kind d e) refl any p.0 (begun_fits rows kind d es p.1)
  where
    here : begins kind d e ≡ true → first_night_fits rows e ≡ true → NightFits rows kind d
    here t le =
        let q = and_true (takes kind d e.1) (e.1.arrive == d) t in
        let k = and_true (is_standing e.1.state) (bytes_eq e.1.kind kind)
        (and_true (is_of_kind kind e.1) (nat_le e.1.arrive d && nat_lt d e.1.depart) q.0).0 in
        let fits : NightFits rows e.1.kind e.1.arrive = le_from _ _ le in
        subst (λ z. NightFits rows kind z) (eq_from e.1.arrive d q.1)
        (subst (λ z. NightFits rows z e.1.arrive) ((bytes_eq-Decides e.1.kind kind).0 k.1) fits)

    by : (b : Bool) → begins kind d e ≡ b → (b || list_any (begins kind d) es) ≡ true → first_night_fits rows e ≡ true
        → (list_any (begins kind d) es ≡ true → NightFits rows kind d) → NightFits rows kind d
    by true t g le ih = here t le
    by false t g le ih = ih g

not_first : (a b : Bool) → a ≡ true → (a && b) ≡ false → b ≡ false
not_first true b t e = e
not_first false b t e = not_both false t refl

-- a stay that takes the night and doesn't begin on it takes the night before
took_before : (kind : List ℕ) (d : ℕ) (e : ℕ × Stay)
    → begins kind (suc d) e ≡ false → takes kind (suc d) e.1 ≡ true → takes kind d e.1 ≡ true
took_before kind d e f t =
    let later = not_first (takes kind (suc d) e.1) (e.1.arrive == suc d) t f in
    let p = and_true (is_of_kind kind e.1) (nat_le e.1.arrive (suc d) && nat_lt (suc d) e.1.depart) t in
    let q = and_true (nat_le e.1.arrive (suc d)) (nat_lt (suc d) e.1.depart) p.1 in
    let low = q.0 in
    let high = q.1 in
    both _ _ p.0
    (both (nat_le e.1.arrive d) (nat_lt d e.1.depart) (grind (arith, nat_tests)) (grind (arith, nat_tests)))

at_most : (a b : Bool) → (a ≡ true → b ≡ true) → cond a 1 0 ≤ cond b 1 0
at_most true true f = omega arith
at_most true false f = not_both false (f refl) refl
at_most false true f = omega arith
at_most false false f = omega arith

-- where no stay begins on the night, it is no fuller than the one before
no_fuller : (kind : List ℕ) (d : ℕ) (es : List (ℕ × Stay)) → list_any (begins kind (suc d)) es ≡ false
    → nights_taken (values_of es) kind (suc d) ≤ nights_taken (values_of es) kind d
unfolding nights_taken
no_fuller kind d [] none = omega arith
no_fuller kind d (e ∷ es) none =
    let p = or_false (begins kind (suc d) e) (list_any (begins kind (suc d)) es) none in
    let now = count_more (takes kind (suc d)) e.1 (values_of es) in
    let was = count_more (takes kind d) e.1 (values_of es) in
    let one = at_most (takes kind (suc d) e.1) (takes kind d e.1) (took_before kind d e p.0) in
    let rest : count_by (takes kind (suc d)) (values_of es) ≤ count_by (takes kind d) (values_of es) =
    no_fuller kind d es p.1 in
    omega arith

begins_at_zero : (kind : List ℕ) (e : ℕ × Stay) → takes kind 0 e.1 ≡ true → begins kind 0 e ≡ true
begins_at_zero kind e t =
    let p = and_true (is_of_kind kind e.1) (nat_le e.1.arrive 0 && nat_lt 0 e.1.depart) t in
    let low = (and_true (nat_le e.1.arrive 0) (nat_lt 0 e.1.depart) p.1).0 in
    both _ _ t (grind (arith, nat_tests))

-- where no stay begins on the first night of all, none takes it
empty_first : (kind : List ℕ) (es : List (ℕ × Stay))
    → list_any (begins kind 0) es ≡ false → nights_taken (values_of es) kind 0 ≤ 0
unfolding nights_taken
empty_first kind [] none = omega arith
empty_first kind (e ∷ es) none =
    let p = or_false (begins kind 0 e) (list_any (begins kind 0) es) none in
    let now = count_more (takes kind 0) e.1 (values_of es) in
    let one : cond (takes kind 0 e.1) 1 0 ≤ 0 =
    at_most (takes kind 0 e.1) false (λ t. sym p.0 ∙ begins_at_zero kind e t) in
    let rest : count_by (takes kind 0) (values_of es) ≤ 0 = empty_first kind es p.1 in
    omega arith

-- All nights fit, where each stay's first night does.
all_nights_fit : (rows : Rows) → nights_fit rows ≡ true → (kind : List ℕ) (d : ℕ) → NightFits rows kind d
all_nights_fit rows all kind zero = by (list_any (begins kind 0) rows.stays) refl
  where
    by : (b : Bool) → list_any (begins kind 0) rows.stays ≡ b → NightFits rows kind 0
    by true t = begun_fits rows kind 0 rows.stays all t
    by false f = let none = empty_first kind rows.stays f in omega arith
all_nights_fit rows all kind (suc d) =
    by (list_any (begins kind (suc d)) rows.stays) refl (all_nights_fit rows all kind d)
  where
    by : (b : Bool) → list_any (begins kind (suc d)) rows.stays ≡ b
        → NightFits rows kind d → NightFits rows kind (suc d)
    by true t ih = begun_fits rows kind (suc d) rows.stays all t
    by false f ih = let no_more = no_fuller kind d rows.stays f in omega arith

-- Sound rows pass the test.
pub sound_pass : (rows : Rows) → IsSound rows → passes_rules rows ≡ true
sound_pass rows s =
    both _ _ (both _ _ (both _ _ (both _ _ (both _ _ (both _ _ (both _ _ (both _ _ (both _ _ (both _ _ (both _ _ (both _
    _ (both _ _ (both _ _ (both _ _ (both _ _ (both _ _ (both _ _ (both _ _ (both _ _ (both _ _ (both _ _ (both _ _
    (both _ _ (both _ _ (both _ _
    (both _ _ (both _ _ (both _ _ (both _ _ (both _ _ (both _ _ (both _ _ (both _ _ (both _ _ (both _ _ (both _ _
    (both _ _ (both _ _ (both _ _ s.keys s.meta_day) s.meta_kinds) s.kind_reads) s.room_number) s.room_lock_place)
    s.room_kind) s.room_codes) s.room_notes) s.room_party) s.room_secured) s.stay_number) s.stay_guest) s.stay_kind)
    s.stay_day) s.stay_room) (nights_pass rows s.stay_nights)) s.code_range) s.code_room) s.code_places) s.card_number)
    s.card_party) s.card_link) s.card_one_party) s.card_neighbours) s.card_fits) s.card_newest) s.card_last)
    s.inside_fits) s.note_counted) s.note_fits) s.note_of_fit) s.fit_room) s.fit_number) s.fit_first) s.fit_places)
    s.fit_notes) s.fit_held) s.fit_noted) s.fit_few) s.fit_of_room

-- Rows that pass the test are sound.
pub passing_are_sound : (rows : Rows) → passes_rules rows ≡ true → IsSound rows
passing_are_sound rows t =
    let p40 = and_true _ (rows_of_last_fits rows) t in
    let p39 = and_true _ (fit_notes_few rows) p40.0 in
    let p38 = and_true _ (last_fits_noted rows) p39.0 in
    let p37 = and_true _ (last_fits_held rows) p38.0 in
    let p36 = and_true _ (fit_notes_rise rows) p37.0 in
    let p35 = and_true _ (fit_places_rise rows) p36.0 in
    let p34 = and_true _ (first_fits rows) p35.0 in
    let p33 = and_true _ (fit_numbers rows) p34.0 in
    let p32 = and_true _ (fit_rooms_there rows) p33.0 in
    let p31 = and_true _ (notes_of_fits rows) p32.0 in
    let p30 = and_true _ (notes_fit rows) p31.0 in
    let p29 = and_true _ (notes_counted rows) p30.0 in
    let p28 = and_true _ (insides_fit rows) p29.0 in
    let p27 = and_true _ (last_cards_newest rows) p28.0 in
    let p26 = and_true _ (newest_of_party rows) p27.0 in
    let p25 = and_true _ (fits_without_links rows) p26.0 in
    let p24 = and_true _ (neighbours_are_links rows) p25.0 in
    let p23 = and_true _ (links_of_one_party rows) p24.0 in
    let p22 = and_true _ (links_are_neighbours rows) p23.0 in
    let p21 = and_true _ (card_parties_there rows) p22.0 in
    let p20 = and_true _ (card_numbers rows) p21.0 in
    let p19 = and_true _ (places_once rows) p20.0 in
    let p18 = and_true _ (code_rooms_there rows) p19.0 in
    let p17 = and_true _ (codes_in_range rows) p18.0 in
    let p16 = and_true _ (nights_fit rows) p17.0 in
    let p15 = and_true _ (stay_rooms rows) p16.0 in
    let p14 = and_true _ (stay_days rows) p15.0 in
    let p13 = and_true _ (stay_kinds_there rows) p14.0 in
    let p12 = and_true _ (guests_read rows) p13.0 in
    let p11 = and_true _ (stay_numbers rows) p12.0 in
    let p10 = and_true _ (secured_hold_last rows) p11.0 in
    let p9 = and_true _ (parties_in_house rows) p10.0 in
    let p8 = and_true _ (note_counts rows) p9.0 in
    let p7 = and_true _ (codes_few rows) p8.0 in
    let p6 = and_true _ (room_kinds_there rows) p7.0 in
    let p5 = and_true _ (lock_places rows) p6.0 in
    let p4 = and_true _ (room_numbers rows) p5.0 in
    let p3 = and_true _ (kinds_read rows) p4.0 in
    let p2 = and_true _ (day_before_kinds rows) p3.0 in
    let p1 = and_true _ (day_in_range rows) p2.0 in
    record {
      keys = p1.0;
      meta_day = p1.1;
      meta_kinds = p2.1;
      kind_reads = p3.1;
      room_number = p4.1;
      room_lock_place = p5.1;
      room_kind = p6.1;
      room_codes = p7.1;
      room_notes = p8.1;
      room_party = p9.1;
      room_secured = p10.1;
      stay_number = p11.1;
      stay_guest = p12.1;
      stay_kind = p13.1;
      stay_day = p14.1;
      stay_room = p15.1;
      stay_nights = all_nights_fit rows p16.1;
      code_range = p17.1;
      code_room = p18.1;
      code_places = p19.1;
      card_number = p20.1;
      card_party = p21.1;
      card_link = p22.1;
      card_one_party = p23.1;
      card_neighbours = p24.1;
      card_fits = p25.1;
      card_newest = p26.1;
      card_last = p27.1;
      inside_fits = p28.1;
      note_counted = p29.1;
      note_fits = p30.1;
      note_of_fit = p31.1;
      fit_room = p32.1;
      fit_number = p33.1;
      fit_first = p34.1;
      fit_places = p35.1;
      fit_notes = p36.1;
      fit_held = p37.1;
      fit_noted = p38.1;
      fit_few = p39.1;
      fit_of_room = p40.1;
    }
