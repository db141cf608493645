-- Kinds read as codes, the kinds of rooms and stays are there, and a day is set where a kind or a room is.
use Rattle.std.proofs.Common.{ℕ, suc, ◌≡◌, Bool, true, false, Option, Some, None, List, [], ◌∷◌, refl, sym, ◌∙◌, ◌||◌}
use Rattle.std.proofs.Common.{arith, bytes_eq, is_some, length, nat_cmp, ◌==◌, Ordering, Less, Equal, Greater}
use Rattle.hotel_model.proofs.Names.{match_ordering, slice_cmp, list_any, insert_key, Event, Kind, Install, Reserved}
use Rattle.hotel_model.proofs.Names.{History, start, ◌▷◌, day, kinds, rooms, room_row, rows_of, has_kind, is_begun}
use Rattle.hotel_model.proofs.Names.{is_kind, is_room, Reached, kinds_read}
use Rattle.hotel_model.proofs.Names.{room_kinds_there, stay_kinds_there}
use Rattle.hotel_nights.specs.Kinds as nights
use Rattle.hotel_model.proofs.{OfTables.Grown.may_follow, Invariants.EventRanges.last_in_range}
use Rattle.hotel_model.proofs.OfTables.{TableKeys.row_of_key, Tests.eq_from}
use Rattle.hotel_model.proofs.OfTables.RowTests.{or_later, all_mapped, all_keys_inserted, found_passes}
use Rattle.hotel_model.proofs.SoundRows.{RowsPass.rooms_pass, RowsPass.stays_pass, SoundDay.day_before}

-- Each kind reads as a code.
pub kinds_are_read : (h : History) → Reached h → kinds_read (rows_of h) ≡ true
kinds_are_read (start t) ok = ok.kind_reads
kinds_are_read (h ▷ Kind kind) ok = all_keys_inserted (slice_cmp nat_cmp) nights.is_kind kind (kinds h)
    (last_in_range h (Kind kind) ok) (kinds_are_read h ok.0)
kinds_are_read (h ▷ _) ok = kinds_are_read h ok.0

any_by : {K : Type 0} (cmp : K → K → Ordering) (t : K → Bool) (o : Ordering) (k x : K) (xs : List K)
    → (t x || list_any t xs) ≡ true → (list_any t xs ≡ true → list_any t (insert_key cmp xs k) ≡ true)
    → list_any t (match_ordering o (k ∷ x ∷ xs) (x ∷ xs) (x ∷ insert_key cmp xs k)) ≡ true
any_by cmp t Less k x xs h ih = or_later (t k) _ h
any_by cmp t Equal k x xs h ih = h
any_by {K} cmp t Greater k x xs h ih = by (t x) h
  where
    by : (b : Bool) → (b || list_any t xs) ≡ true → (b || list_any t (insert_key cmp xs k)) ≡ true
    by true e = refl
    by false e = ih e

-- what some key passed, some key passes where one more was added
pub any_key_inserted : {K : Type 0} (cmp : K → K → Ordering) (t : K → Bool) (k : K) (xs : List K)
    → list_any t xs ≡ true → list_any t (insert_key cmp xs k) ≡ true
any_key_inserted cmp t k [] h = cc
any_key_inserted cmp t k (x ∷ xs) h = any_by cmp t (cmp k x) k x xs h (any_key_inserted cmp t k xs)

-- a kind that is there stays
pub kind_stays : (h : History) (event : Event) (kind : List ℕ) → is_kind h kind ≡ true → is_kind (h ▷ event) kind ≡ true
kind_stays h (Kind added) kind e = any_key_inserted (slice_cmp nat_cmp) (λ k. bytes_eq k kind) added (kinds h) e
kind_stays h _ kind e = e

-- The kind of each room is there.
pub room_kinds : (h : History) → Reached h → room_kinds_there (rows_of h) ≡ true
room_kinds h ok =
    all_mapped _ (λ e. (e.0, room_row h e.0 e.1)) (rooms h)
    ∙ rooms_pass (λ h e. is_kind h e.1) (λ h event e ok. kind_stays h event e.1) (λ s ok. all_mapped _ (λ e.
    (e.0, e.1.kind)) s.rooms ∙ ok.room_kind) (λ h room code kind ok. (may_follow h (Install room kind code) ok).0) h ok

-- The kind of each stay is there.
pub stay_kinds : (h : History) → Reached h → stay_kinds_there (rows_of h) ≡ true
stay_kinds h ok =
    stays_pass (λ h e. is_kind h e.1.kind) (λ h event e ok. kind_stays h event e.1.kind)
    (λ s ok. ok.stay_kind) (λ h x s e. e)
    (λ h party guest kind arrive depart ok. (may_follow h (Reserved party guest kind arrive depart) ok).0) h ok

begun_by : (o : Option ℕ) (ks : List (List ℕ)) (kind : List ℕ)
    → (is_some o || (length ks == 0)) ≡ true → list_any (λ k. bytes_eq k kind) ks ≡ true → is_some o ≡ true
begun_by (Some d) ks kind set there = refl
begun_by None [] kind set there = cc
begun_by None (k ∷ ks) kind set there =
    let none : suc (length ks) ≡ 0 = eq_from (length (k ∷ ks)) 0 set in absurd (omega (arith, none))

-- A day is set where a kind is there.
pub begun_with_kind : (h : History) → Reached h → (kind : List ℕ) → is_kind h kind ≡ true → is_begun h ≡ true
begun_with_kind h ok kind there = begun_by (day h) (kinds h) kind (day_before h ok) there

-- And where a room is.
pub begun_with_room : (h : History) → Reached h → (r : ℕ) → is_room h r ≡ true → is_begun h ≡ true
begun_with_room h ok r there =
    let row = row_of_key (rooms h) r there in
    let all = sym (all_mapped _ (λ e. (e.0, room_row h e.0 e.1)) (rooms h)) ∙ room_kinds h ok in
    begun_with_kind h ok row.0 (found_passes (λ e. has_kind (rows_of h) e.1) (rooms h) r row.0 all row.1)
