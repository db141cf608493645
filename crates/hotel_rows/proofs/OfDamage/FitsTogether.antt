-- The rules of fits as tests of each fit, and of each room.
use Rattle.std.proofs.Common.{◌≡◌, ℕ, suc, ◌+◌, ◌-◌, Bool, true, false, ◌&&◌, ◌==◌, List, [], ◌∷◌, ◌++◌, map, length}
use Rattle.std.proofs.Common.{refl, sym, ap, ◌∙◌, nat_cmp, arith}
use Rattle.std.specs.Prelude.{nat_le, nat_lt, is_some}
use Rattle.std.specs.List.{list_all}
use Rattle.std.specs.Ordering.{is_lt}
use Rattle.std.specs.Map.{keys_of}
use Rattle.std.proofs.lemmas.Bool.Decides.{nat_tests}
use Rattle.hotel_model.specs.declared.rows.RoomRow.{RoomRow}
use Rattle.hotel_model.specs.declared.rows.FitRow.{FitRow}
use Rattle.hotel_model.specs.Words.{said_of, pair_cmp}
use Rattle.hotel_model.specs.Rows.{at_number, fits_at, last_fit}
use Rattle.hotel_model.specs.SoundRooms.{are_in_order, count_up}
use Rattle.hotel_model.specs.SoundFits.{fit_rooms_there, fit_numbers, first_fits, first_is_first, fit_places_rise}
use Rattle.hotel_model.specs.SoundFits.{none_fall, notes_before_each, fit_notes_rise, last_fits_held}
use Rattle.hotel_model.specs.SoundFits.{last_fits_noted, rise_by_few, fit_notes_few}
use Rattle.hotel_model.proofs.OfTables.Tests.{and_true, eq_from, eq_self}
use Rattle.hotel_books.proofs.OfTables.MapEntries.{same_bool}
use Rattle.hotel_model.proofs.OfTables.RowTests.{both, all_mapped}
use Rattle.hotel_rows.specs.declared.damage.fit_runs.FitRun.{FitRun}
use Rattle.hotel_rows.specs.declared.stored.PlainFit.{PlainFit}
use Rattle.hotel_rows.specs.declared.stored.PlainRoom.{PlainRoom}
use Rattle.hotel_rows.specs.declared.stored.Stored.{Stored}
use Rattle.hotel_rows.specs.Stored.{number_of, plain_fits, fits_of, rows_of, fit_entry, joined_row}
use Rattle.hotel_rows.specs.Keys.{fit_key, room_key}
use Rattle.hotel_rows.specs.Damage.{fit_holds}
use Rattle.hotel_rows.specs.RowTests.{has_room}
use Rattle.hotel_rows.specs.FitRuns.{fit_run_of, comes_next, all_follow, last_after, FitRunsOf, starts_at_one, is_ended}
use Rattle.hotel_rows.specs.FitRuns.{fitted_as_due}
use Rattle.hotel_rows.proofs.OfDamage.RowsTogether.{all_and, all_alike, all_rooms}
use Rattle.hotel_rows.proofs.OfDamage.KnownFits.{last_is_after}

-- ---- the fits of one room

less_is : (a b : ℕ) → is_lt (nat_cmp a b) ≡ nat_lt a b
less_is a b = same_bool _ _ (λ t. to a b t) (λ t. from a b t)
  where
    to : (a b : ℕ) → is_lt (nat_cmp a b) ≡ true → nat_lt a b ≡ true
    to a b t = grind (arith, nat_tests)

    from : (a b : ℕ) → nat_lt a b ≡ true → is_lt (nat_cmp a b) ≡ true
    from a b t = grind (arith, nat_tests)

-- the rules on one fit and those after it, of a room with so many notes
record Follow (f : FitRow) (fs : List FitRow) (notes : ℕ) : Type 0 where
  numbers : count_up (f.fit + 1) (map (λ (f : FitRow). f.fit) fs) ≡ true
  places : are_in_order nat_cmp (map (λ (f : FitRow). f.place) (f ∷ fs)) ≡ true
  rise : none_fall (notes_before_each (f ∷ fs)) ≡ true
  few : rise_by_few (notes_before_each (f ∷ fs) ++ notes ∷ []) ≡ true

to_follow : (f : FitRow) (fs : List FitRow) (notes : ℕ) → Follow f fs notes
    → (all_follow f fs ≡ true) × (nat_le (notes - (last_after f fs).before) 9999999 ≡ true)
to_follow f [] notes h = (refl, (and_true (nat_le (notes - f.before) 9999999) true h.few).0)
to_follow f (g ∷ gs) notes h =
    let n = and_true (g.fit == f.fit + 1) (count_up (f.fit + 1 + 1) (map (λ (f : FitRow). f.fit) gs)) h.numbers in
    let p = and_true (is_lt (nat_cmp f.place g.place))
    (are_in_order nat_cmp (map (λ (f : FitRow). f.place) (g ∷ gs))) h.places in
    let r = and_true (nat_le f.before g.before) (none_fall (notes_before_each (g ∷ gs))) h.rise in
    let w = and_true (nat_le (g.before - f.before) 9999999)
    (rise_by_few (notes_before_each (g ∷ gs) ++ notes ∷ [])) h.few in
    let here = eq_from g.fit (f.fit + 1) n.0 in
    let later = to_follow g gs notes (record {
      numbers = ap
          (λ k. count_up (k + 1) (map (λ (f : FitRow). f.fit) gs)) here ∙ n.1;
      places = p.1;
      rise = r.1;
      few = w.1;
    }) in
    (both _ _ (both _ _ (both _ _ (both _ _ n.0 (sym (less_is f.place g.place) ∙ p.0)) r.0) w.0) later.0, later.1)

from_follow : (f : FitRow) (fs : List FitRow) (notes : ℕ) → all_follow f fs ≡ true
    → nat_le (notes - (last_after f fs).before) 9999999 ≡ true → Follow f fs notes
from_follow f [] notes a e = record { numbers = refl; places = refl; rise = refl; few = both _ _ e refl }
from_follow f (g ∷ gs) notes a e =
    let p = and_true (comes_next f g) (all_follow g gs) a in
    let later = from_follow g gs notes p.1 e in
    let few = and_true _ (nat_le (g.before - f.before) 9999999) p.0 in
    let rise = and_true _ (nat_le f.before g.before) few.0 in
    let place = and_true (g.fit == f.fit + 1) (nat_lt f.place g.place) rise.0 in
    let here = eq_from g.fit (f.fit + 1) place.0 in
    record {
      numbers = both _ _ place.0 (ap (λ k. count_up (k + 1) (map (λ (f : FitRow). f.fit) gs)) (sym here)
          ∙ later.numbers);
      places = both _ _ (less_is f.place g.place ∙ place.1) later.places;
      rise = both _ _ rise.1 later.rise;
      few = both _ _ few.1 later.few;
    }

-- the rules on the fits of a room, whose lock holds the code at this place, and which has so many notes
abbrev pub are_fits : List FitRow → ℕ → ℕ → Bool
are_fits fits lock notes =
    (count_up 1 (map (λ (f : FitRow). f.fit) fits) && nat_le 1 (length fits) && nat_le (length fits) 99)
    && first_is_first fits && are_in_order nat_cmp (map (λ (f : FitRow). f.place) fits)
    && none_fall (notes_before_each fits) && said_of (last_fit fits) true (λ f. nat_le f.place lock)
    && said_of (last_fit fits) true (λ f. nat_le f.before notes)
    && rise_by_few (notes_before_each fits ++ notes ∷ [])

-- the same of what is known of them
pub fits_by_run : (fits : List FitRow) (plain : PlainRoom)
    → are_fits fits (number_of plain.lock_place) (number_of plain.notes)
    ≡ said_of (fit_run_of fits) false (λ run. starts_at_one run && is_ended plain run)
fits_by_run [] plain = refl
fits_by_run (f ∷ fs) plain = same_bool _ _ to from
  where
    test : (p : FitRow → Bool) → said_of (last_fit (f ∷ fs)) true p ≡ p (last_after f fs)
    test p = ap (λ o. said_of o true p) (last_is_after f fs)

    to : are_fits (f ∷ fs) (number_of plain.lock_place) (number_of plain.notes) ≡ true
        → said_of (fit_run_of (f ∷ fs)) false (λ run. starts_at_one run && is_ended plain run) ≡ true
    to t =
        let a6 = and_true _ (rise_by_few (notes_before_each (f ∷ fs) ++ number_of plain.notes ∷ [])) t in
        let a5 = and_true _ (said_of (last_fit (f ∷ fs)) true (λ f. nat_le f.before (number_of plain.notes))) a6.0 in
        let a4 = and_true _ (said_of (last_fit (f ∷ fs)) true (λ f. nat_le f.place (number_of plain.lock_place)))
        a5.0 in
        let a3 = and_true _ (none_fall (notes_before_each (f ∷ fs))) a4.0 in
        let a2 = and_true _ (are_in_order nat_cmp (map (λ (f : FitRow). f.place) (f ∷ fs))) a3.0 in
        let a1 = and_true _ (first_is_first (f ∷ fs)) a2.0 in
        let n1 = and_true _ (nat_le (length (f ∷ fs)) 99) a1.0 in
        let n2 = and_true (count_up 1 (map (λ (f : FitRow). f.fit) (f ∷ fs))) (nat_le 1 (length (f ∷ fs))) n1.0 in
        let n3 = and_true (f.fit == 1) (count_up (1 + 1) (map (λ (f : FitRow). f.fit) fs)) n2.0 in
        let one = eq_from f.fit 1 n3.0 in
        let first = and_true (f.place == 0) (f.before == 0) a1.1 in
        let follow = to_follow f fs (number_of plain.notes)
        (record {
          numbers = ap (λ k. count_up (k + 1) (map (λ (f : FitRow). f.fit) fs)) one
              ∙ n3.1;
          places = a2.1;
          rise = a3.1;
          few = a6.1;
        }) in
        both _ _ (both _ _ (both _ _ (both _ _ (both _ _ follow.0 n3.0) first.0) first.1) n1.1)
        (both _ _ (both _ _ (sym (test (λ f. nat_le f.place (number_of plain.lock_place))) ∙ a4.1)
        (sym (test (λ f. nat_le f.before (number_of plain.notes))) ∙ a5.1)) follow.1)

    from : said_of (fit_run_of (f ∷ fs)) false (λ run. starts_at_one run && is_ended plain run) ≡ true
        → are_fits (f ∷ fs) (number_of plain.lock_place) (number_of plain.notes) ≡ true
    from t =
        let p = and_true (all_follow f fs && (f.fit == 1) && (f.place == 0) && (f.before == 0)
        && nat_le (length (f ∷ fs)) 99) _ t in
        let b4 = and_true _ (nat_le (length (f ∷ fs)) 99) p.0 in
        let b3 = and_true _ (f.before == 0) b4.0 in
        let b2 = and_true _ (f.place == 0) b3.0 in
        let b1 = and_true (all_follow f fs) (f.fit == 1) b2.0 in
        let e2 = and_true _ (nat_le (number_of plain.notes - (last_after f fs).before) 9999999) p.1 in
        let e1 = and_true (nat_le (last_after f fs).place (number_of plain.lock_place))
        (nat_le (last_after f fs).before (number_of plain.notes)) e2.0 in
        let one = eq_from f.fit 1 b1.1 in
        let h = from_follow f fs (number_of plain.notes) b1.0 e2.1 in
        both _ _ (both _ _ (both _ _ (both _ _ (both _ _ (both _ _
        (both _ _ (both _ _ (both _ _ b1.1 (ap (λ k. count_up (k + 1) (map (λ (f : FitRow). f.fit) fs)) (sym one)
        ∙ h.numbers)) (some (length fs))) b4.1)
        (both _ _ b2.1 b3.1)) h.places) h.rise) (test (λ f. nat_le f.place (number_of plain.lock_place)) ∙ e1.0))
        (test (λ f. nat_le f.before (number_of plain.notes)) ∙ e1.1)) h.few
      where
        some : (n : ℕ) → nat_le 1 (suc n) ≡ true
        some n = grind (arith, nat_tests)

-- ---- the fits of all rooms

-- each row is of its key
own_rows : (ls : List PlainFit) → list_all (λ (e : (ℕ × ℕ) × FitRow). (e.1.room == e.0.0) && (e.1.fit == e.0.1))
    (map fit_entry ls) ≡ true
own_rows [] = refl
own_rows (l ∷ ls) = both _ _ (both _ _ (eq_self (number_of l.room)) (eq_self (number_of l.fit))) (own_rows ls)

-- what was joined so far of all rooms, and a rule more
more_rooms : (s : Stored) (o : Bool) (t : ℕ × RoomRow → Bool) (u : PlainRoom → Bool) (b : Bool)
    → b ≡ (o && list_all u s.room.items)
    → (b && list_all t (rows_of s).rooms) ≡ (o && list_all
    (λ l. u l && t (room_key l, joined_row (fits_of s) l)) s.room.items)
more_rooms s o t u b e =
    ap (λ z. z && list_all t (rows_of s).rooms) e
    ∙ turned o (list_all u s.room.items) (list_all t (rows_of s).rooms)
    ∙ ap (λ z. o && z) (all_and u (λ l. t (room_key l, joined_row (fits_of s) l)) s.room.items _
    (all_rooms t (fits_of s) s.room.items))
  where
    turned : (a b c : Bool) → ((a && b) && c) ≡ (a && (b && c))
    turned true b c = refl
    turned false b c = refl

-- the rules of fits are a test of the keys, of each fit and of each room
pub fits_together : (s : Stored) (runs : List (ℕ × FitRun)) → FitRunsOf runs (plain_fits s)
    → fit_holds s ≡ (are_in_order pair_cmp (map fit_key (plain_fits s))
    && list_all (has_room (rows_of s)) (plain_fits s) && list_all (fitted_as_due runs) s.room.items)
fits_together s runs is =
    let ls = plain_fits s in
    let rows = rows_of s in
    let fits = λ (q : ℕ). fits_at (map fit_entry ls) q in
    let order = are_in_order pair_cmp (map fit_key ls) in
    let there = list_all (has_room rows) ls in
    let numbered = list_all (λ (e : ℕ × RoomRow). count_up 1 (map (λ (f : FitRow). f.fit) (fits e.1.room))
    && nat_le 1 (length (fits e.1.room)) && nat_le (length (fits e.1.room)) 99) rows.rooms in
    ap (λ ks. are_in_order pair_cmp ks && fit_rooms_there rows && fit_numbers rows && first_fits rows
    && fit_places_rise rows && fit_notes_rise rows && last_fits_held rows && last_fits_noted rows
    && fit_notes_few rows) (keys_are ls)
    ∙ ap (λ b. order && b && fit_numbers rows && first_fits rows && fit_places_rise rows && fit_notes_rise rows
    && last_fits_held rows && last_fits_noted rows && fit_notes_few rows)
    (all_mapped (λ (e : (ℕ × ℕ) × FitRow). is_some (at_number rows.rooms e.1.room)) fit_entry ls)
    ∙ ap (λ b. order && there && (b && numbered) && first_fits rows && fit_places_rise rows && fit_notes_rise rows
    && last_fits_held rows && last_fits_noted rows && fit_notes_few rows) (own_rows ls)
    ∙ more_rooms s (order && there) (λ (e : ℕ × RoomRow). rise_by_few
    (notes_before_each (fits e.1.room) ++ e.1.notes ∷ [])) _ _
    (more_rooms s (order && there) (λ (e : ℕ × RoomRow). said_of (last_fit (fits e.1.room)) true
    (λ f. nat_le f.before e.1.notes)) _ _
    (more_rooms s (order && there) (λ (e : ℕ × RoomRow). said_of (last_fit (fits e.1.room)) true
    (λ f. nat_le f.place e.1.lock_place)) _ _
    (more_rooms s (order && there) (λ (e : ℕ × RoomRow). none_fall (notes_before_each (fits e.1.room))) _ _
    (more_rooms s (order && there) (λ (e : ℕ × RoomRow). are_in_order nat_cmp
    (map (λ (f : FitRow). f.place) (fits e.1.room))) _ _
    (more_rooms s (order && there) (λ (e : ℕ × RoomRow). first_is_first (fits e.1.room))
    (λ l. count_up 1 (map (λ (f : FitRow). f.fit) (fits (room_key l))) && nat_le 1 (length (fits (room_key l)))
    && nat_le (length (fits (room_key l))) 99) _
    (ap (λ b. (order && there) && b) (all_rooms (λ (e : ℕ × RoomRow). count_up 1
    (map (λ (f : FitRow). f.fit) (fits e.1.room)) && nat_le 1 (length (fits e.1.room))
    && nat_le (length (fits e.1.room)) 99) (fits_of s) s.room.items)))))))
    ∙ ap (λ b. (order && there) && b) (all_alike _ (fitted_as_due runs) s.room.items (λ plain.
    fits_by_run (fits (number_of plain.room)) plain
    ∙ ap (λ o. said_of o false (λ run. starts_at_one run && is_ended plain run)) (sym (is (number_of plain.room)))))
  where
    keys_are : (ls : List PlainFit) → keys_of (map fit_entry ls) ≡ map fit_key ls
    keys_are [] = refl
    keys_are (l ∷ ls) = ap (λ ks. fit_key l ∷ ks) (keys_are ls)
