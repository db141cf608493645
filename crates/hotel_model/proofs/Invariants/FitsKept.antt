-- The table of fits: each row is of its key, of a room that is there, and not after the room's present fit.
use Rattle.std.proofs.Common.{ℕ, ◌≡◌, ◌+◌, Bool, true, false, None, List, [], ◌∷◌, drop, map, length, refl, ap, sym}
use Rattle.std.proofs.Common.{◌∙◌, arith, ◌==◌, ◌&&◌, ◌||◌, not, nat_le, nat_lt}
use Rattle.hotel_model.proofs.Names.{nat_tests, list_all, is_at, lookup, FitRow, fit_row, fits, fits_at, fit_at}
use Rattle.hotel_model.proofs.Names.{present_fit, notes, when, and_last, pair_cmp, count_up, Event, Install, Refitted}
use Rattle.hotel_model.proofs.Names.{History, ◌▷◌, rooms, issued, is_room, rows_of, Reached}
use Rattle.hotel_model.proofs.{OfTables.Tests.eq_from, OfTables.Tests.eq_self, OfTables.Tests.and_true}
use Rattle.hotel_model.proofs.{OfTables.Tests.not_both, OfTables.Tests.le_self, OfTables.RowTests.both}
use Rattle.hotel_model.proofs.{OfTables.RowTests.or_first, OfTables.RowTests.all_weaker}
use Rattle.hotel_model.proofs.OfTables.AtRoom.{picked, is_before, picked_more, fits_are_picked, found_at, first_in}
use Rattle.hotel_model.proofs.OfTables.AtRoom.{keys_at}
use Rattle.hotel_model.proofs.{OfTables.TableKeys.key_inserted, OfTables.Grown.may_follow}
use Rattle.hotel_model.proofs.{Invariants.HomeRooms.apart_rooms, Invariants.HomeRooms.new_is_apart}
use Rattle.hotel_model.proofs.{Invariants.HomeRooms.room_goes_on}
use Rattle.hotel_model.proofs.{SoundRows.RowsPass.fits_pass, SoundRows.SoundKeys.fits_in_order}
use Rattle.hotel_model.proofs.{Starts.StartFits.fits_kept_at_start}

-- the row is of its key, of a room that is there, and not after the room's present fit
abbrev pub is_kept_fit : History → (ℕ × ℕ) × FitRow → Bool
is_kept_fit h e = (e.1.room == e.0.0) && (e.1.fit == e.0.1) && is_room h e.0.0 && nat_le e.0.1 (present_fit h e.0.0)

higher : (b : Bool) (n p q : ℕ) → nat_le n p ≡ true → (b ≡ true → q ≡ p + 1) → nat_le n (when b (λ _. q) p) ≡ true
higher true n p q t e = let s = e refl in grind (arith, nat_tests)
higher false n p q t e = t

fit_grows : (h : History) (event : Event) (n r : ℕ) → Reached (h ▷ event) → is_room h r ≡ true
    → nat_le n (present_fit h r) ≡ true → nat_le n (present_fit (h ▷ event) r) ≡ true
fit_grows h (Install room kind code) n r ok there t =
    ap (λ b. nat_le n (when b (λ _. 1) (present_fit h r)))
    (new_is_apart h room r (may_follow h (Install room kind code) ok).1 there) ∙ t
fit_grows h (Refitted room fit code) n r ok there t =
    higher (room == r) n (present_fit h r) fit t
    (λ e. (may_follow h (Refitted room fit code) ok).2 ∙ ap (λ z. present_fit h z + 1) (eq_from room r e))
fit_grows h _ n r ok there t = t

kept_goes_on : (h : History) (event : Event) (e : (ℕ × ℕ) × FitRow)
    → Reached (h ▷ event) → is_kept_fit h e ≡ true → is_kept_fit (h ▷ event) e ≡ true
kept_goes_on h event e ok t =
    let p =
    and_true ((e.1.room == e.0.0) && (e.1.fit == e.0.1) && is_room h e.0.0) (nat_le e.0.1 (present_fit h e.0.0)) t in
    let q = and_true ((e.1.room == e.0.0) && (e.1.fit == e.0.1)) (is_room h e.0.0) p.0 in
    both _ _ (both _ _ q.0 (room_goes_on h event e.0.0 q.1)) (fit_grows h event e.0.1 e.0.0 ok q.1 p.1)

-- Each fit is of its key, of a room that is there, and not after the present one.
pub fits_kept : (h : History) → Reached h → list_all (is_kept_fit h) (fits h) ≡ true
fits_kept h ok =
    fits_pass is_kept_fit kept_goes_on fits_kept_at_start
    (λ h room code kind ok. both _ _ (both _ _ (both _ _ (eq_self room) refl)
    (key_inserted (rooms h) room kind room ∙ or_first (room == room) (is_room h room) (eq_self room)))
    (ap (λ b. nat_le 1 (when b (λ _. 1) (present_fit h room))) (eq_self room)))
    (λ h room fit code ok. both _ _
    (both _ _ (both _ _ (eq_self room) (eq_self fit)) (may_follow h (Refitted room fit code) ok).0)
    (ap (λ b. nat_le fit (when b (λ _. fit) (present_fit h room))) (eq_self room) ∙ le_self fit))
    h ok

kept_room : (h : History) (e : (ℕ × ℕ) × FitRow)
    → is_kept_fit h e ≡ true → (is_room h e.0.0 ≡ true) × (nat_le e.0.1 (present_fit h e.0.0) ≡ true)
kept_room h e t =
    let p =
    and_true ((e.1.room == e.0.0) && (e.1.fit == e.0.1) && is_room h e.0.0) (nat_le e.0.1 (present_fit h e.0.0)) t in
    ((and_true ((e.1.room == e.0.0) && (e.1.fit == e.0.1)) (is_room h e.0.0) p.0).1, p.1)

other_before : (b : Bool) (c : Bool) → b ≡ false → (not b || c) ≡ true
other_before true c e = not_both true refl e
other_before false c e = refl

-- all fits are of other rooms than one that isn't there
none_before : (h : History) → Reached h → (room : ℕ)
    → is_room h room ≡ false → list_all (is_before room 1) (fits h) ≡ true
none_before h ok room f =
    all_weaker (is_kept_fit h) (is_before room 1)
    (λ e t. other_before (e.0.0 == room) (nat_lt e.0.1 1) (apart_rooms h e.0.0 room (kept_room h e t).0 f)) (fits h)
    (fits_kept h ok)

lower_before : (b : Bool) (n fit p : ℕ) → (b ≡ true → fit ≡ p + 1) → nat_le n p ≡ true → (not b || nat_lt n fit) ≡ true
lower_before true n fit p e t = let s = e refl in grind (arith, nat_tests)
lower_before false n fit p e t = refl

-- all fits are of other rooms, or come before the next one
fits_before : (h : History) → Reached h → (room fit : ℕ)
    → fit ≡ present_fit h room + 1 → list_all (is_before room fit) (fits h) ≡ true
fits_before h ok room fit n =
    all_weaker (is_kept_fit h) (is_before room fit)
    (λ e t. lower_before (e.0.0 == room) e.0.1 fit (present_fit h e.0.0)
    (λ q. n ∙ ap (λ z. present_fit h z + 1) (sym (eq_from e.0.0 room q))) (kept_room h e t).1)
    (fits h) (fits_kept h ok)

-- the fits of a room after one was added
pub fits_installed : (h : History) (room code : ℕ) (kind : List ℕ) (r : ℕ) → Reached (h ▷ Install room kind code)
    → fits_at (fits (h ▷ Install room kind code)) r
    ≡ when (room == r) (and_last (fit_row room 1 0 0)) (fits_at (fits h) r)
fits_installed h room code kind r ok =
    fits_are_picked (fits (h ▷ Install room kind code)) r
    ∙ picked_more (λ (e : (ℕ × ℕ) × FitRow). e.1) (fits h) room 1 (fit_row room 1 0 0) r (fits_in_order h ok.0)
    (none_before h ok.0 room (may_follow h (Install room kind code) ok).1)
    ∙ ap (λ fs. when (room == r) (and_last (fit_row room 1 0 0)) fs) (sym (fits_are_picked (fits h) r))

-- and after a refit
pub fits_refitted : (h : History) (room fit code r : ℕ) → Reached (h ▷ Refitted room fit code)
    → fits_at (fits (h ▷ Refitted room fit code)) r ≡ when (room
    == r) (and_last (fit_row room fit (length (issued h room)) (length (notes h room)))) (fits_at (fits h) r)
fits_refitted h room fit code r ok =
    let row = fit_row room fit (length (issued h room)) (length (notes h room)) in
    fits_are_picked (fits (h ▷ Refitted room fit code)) r
    ∙ picked_more (λ (e : (ℕ × ℕ) × FitRow). e.1) (fits h) room fit row r (fits_in_order h ok.0)
    (fits_before h ok.0 room fit (may_follow h (Refitted room fit code) ok).2)
    ∙ ap (λ fs. when (room == r) (and_last row) fs) (sym (fits_are_picked (fits h) r))

none_at : {Y : Type 0} (f : (ℕ × ℕ) × FitRow → Y) (h : History) (r : ℕ)
    → is_room h r ≡ false → (es : List ((ℕ × ℕ) × FitRow)) → list_all (is_kept_fit h) es ≡ true → picked f es r ≡ []
none_at f h r e [] all = refl
none_at f h r e (x ∷ es) all =
    let p = and_true (is_kept_fit h x) (list_all (is_kept_fit h) es) all in
    ap (λ b. when b (λ ys. f x ∷ ys) (picked f es r)) (apart_rooms h x.0.0 r (kept_room h x p.0).0 e)
    ∙ none_at f h r e es p.1

-- no fit of a room that isn't there
pub no_fits : (h : History) → Reached h → (r : ℕ) → is_room h r ≡ false → fits_at (fits h) r ≡ []
no_fits h ok r e = fits_are_picked (fits h) r ∙ none_at (λ (x : (ℕ × ℕ) × FitRow). x.1) h r e (fits h) (fits_kept h ok)

-- and no row is found
pub no_fit_found : (h : History) → Reached h → (r : ℕ) → is_room h r ≡ false → fit_at (rows_of h) r 1 ≡ None
no_fit_found h ok r e =
    let none : keys_at (fits h) r ≡ [] = none_at (λ (x : (ℕ × ℕ) × FitRow). x.0.1) h r e (fits h) (fits_kept h ok) in
    let m : 1 ≡ 1 + 0 = refl in
    ap (λ z. lookup (is_at (pair_cmp (r, z))) (fits h)) m ∙ found_at (fits h) r 1 0 (ap (λ ns. count_up 1 ns) none)
    ∙ ap (λ (fs : List FitRow). first_in (drop 0 fs))
    (none_at (λ (x : (ℕ × ℕ) × FitRow). x.1) h r e (fits h) (fits_kept h ok))

of_key : (h : History) (e : (ℕ × ℕ) × FitRow) → is_kept_fit h e ≡ true → e.1.fit ≡ e.0.1
of_key h e t =
    let p =
    and_true ((e.1.room == e.0.0) && (e.1.fit == e.0.1) && is_room h e.0.0) (nat_le e.0.1 (present_fit h e.0.0)) t in
    let q = and_true ((e.1.room == e.0.0) && (e.1.fit == e.0.1)) (is_room h e.0.0) p.0 in
    eq_from e.1.fit e.0.1 (and_true (e.1.room == e.0.0) (e.1.fit == e.0.1) q.0).1

numbers_by : (b : Bool) (e : (ℕ × ℕ) × FitRow) (numbers : List ℕ) (fs : List FitRow)
    → e.1.fit ≡ e.0.1 → numbers ≡ map (λ (f : FitRow). f.fit) fs
    → when b (λ ns. e.0.1 ∷ ns) numbers ≡ map (λ (f : FitRow). f.fit) (when b (λ xs. e.1 ∷ xs) fs)
numbers_by true e numbers fs k ih = ap (λ n. n ∷ numbers) (sym k) ∙ ap (λ ns. e.1.fit ∷ ns) ih
numbers_by false e numbers fs k ih = ih

-- the numbers of a room's keys are those of its fits
pub numbers_of_fits : (h : History) (r : ℕ) (es : List ((ℕ × ℕ) × FitRow))
    → list_all (is_kept_fit h) es ≡ true → keys_at es r ≡ map (λ (f : FitRow). f.fit) (fits_at es r)
numbers_of_fits h r [] all = refl
numbers_of_fits h r (e ∷ es) all =
    let p = and_true (is_kept_fit h e) (list_all (is_kept_fit h) es) all in
    numbers_by (e.0.0 == r) e (keys_at es r) (fits_at es r) (of_key h e p.0) (numbers_of_fits h r es p.1)

-- a fit is found by its number, where the numbers of the room's fits go up
pub fit_found : (h : History) → Reached h → (r k : ℕ)
    → count_up 1 (map (λ (f : FitRow). f.fit) (fits_at (fits h) r)) ≡ true
    → fit_at (rows_of h) r (k + 1) ≡ first_in (drop k (fits_at (fits h) r))
fit_found h ok r k up =
    let m : k + 1 ≡ 1 + k = omega arith in
    ap (λ z. lookup (is_at (pair_cmp (r, z))) (fits h)) m
    ∙ found_at (fits h) r 1 k (ap (λ ns. count_up 1 ns) (numbers_of_fits h r (fits h) (fits_kept h ok)) ∙ up)
    ∙ ap (λ fs. first_in (drop k fs)) (sym (fits_are_picked (fits h) r))
