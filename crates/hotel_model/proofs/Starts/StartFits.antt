-- The fits of sound rows.
use Rattle.std.proofs.Common.{ℕ, ◌≡◌, ◌≤◌, ◌+◌, Bool, true, false, Option, Some, None, List, [], ◌∷◌, ◌++◌, map, length}
use Rattle.std.proofs.Common.{refl, ap, sym, ◌∙◌, subst, arith, ◌==◌, ◌&&◌, ◌||◌, not, nat_le, nat_cmp, is_some}
use Rattle.hotel_model.proofs.Names.{list_all, RoomRow, FitRow, Rows, at_number, said_of, when, fits_at, last_fit}
use Rattle.hotel_model.proofs.Names.{count_up, are_in_order, first_is_first, none_fall, notes_before_each, rise_by_few}
use Rattle.hotel_model.proofs.Names.{start, passed, notes, present_fit, notes_before, is_room, IsSound}
use Rattle.hotel_model.proofs.{OfTables.Tests.eq_from, OfTables.Tests.eq_self, OfTables.Tests.and_true}
use Rattle.hotel_model.proofs.{OfTables.Tests.not_both, OfTables.Tests.le_tested, OfTables.RowTests.both}
use Rattle.hotel_model.proofs.{OfTables.RowTests.found_passes, OfTables.FitLists.FitsFor}
use Rattle.hotel_model.proofs.{OfTables.Tests.le_from, Starts.StartRules.said_at, Starts.StartCodes.room_is}
use Rattle.hotel_model.proofs.{Starts.StartCodes.room_there_is, Starts.StartCodes.has_row}
use Rattle.hotel_model.proofs.{Starts.StartLedger.not_there, Starts.StartRows.lock_is, Starts.StartRows.notes_counted}

-- numbers that go up end with the last
last_counts : (n : ℕ) (fs : List FitRow) (f : FitRow)
    → count_up n (map (λ (f : FitRow). f.fit) fs) ≡ true → last_fit fs ≡ Some f → f.fit + 1 ≡ n + length fs
last_counts n [] f up e = cc
last_counts n (a ∷ []) f up e =
    let here = eq_from a.fit n (and_true (a.fit == n) true up).0 in
    let same : a.fit ≡ f.fit = let w : ◌≡◌ {A = Option FitRow} (Some a) (Some f) = e in
    ap (λ o. said_of o 0 (λ (x : FitRow). x.fit)) w in
    omega arith
last_counts n (a ∷ b ∷ fs) f up e =
    let p = and_true (a.fit == n) (count_up (n + 1) (map (λ (f : FitRow). f.fit) (b ∷ fs))) up in
    let later = last_counts (n + 1) (b ∷ fs) f p.1 e in
    omega arith

some_last : (fs : List FitRow) → 1 ≤ length fs → (f : FitRow) × (last_fit fs ≡ Some f)
some_last [] l = absurd (omega arith)
some_last (a ∷ []) l = (a, refl)
some_last (a ∷ b ∷ fs) l = some_last (b ∷ fs) (omega arith)

many_is : (last many fit : ℕ) → last + 1 ≡ 1 + many → fit ≡ last → many ≡ fit
many_is last many fit a b = omega arith

-- the two parts of the rule of numbers
numbered_parts : (t : Rows)
    → IsSound t → (list_all (λ (e : (ℕ × ℕ) × FitRow). (e.1.room == e.0.0) && (e.1.fit == e.0.1)) t.fits ≡ true)
    × (list_all (λ (e : ℕ × RoomRow). count_up 1 (map (λ (f : FitRow). f.fit) (fits_at t.fits e.1.room))
    && nat_le 1 (length (fits_at t.fits e.1.room)) && nat_le (length (fits_at t.fits e.1.room)) 99) t.rooms ≡ true)
numbered_parts t s =
    and_true (list_all (λ (e : (ℕ × ℕ) × FitRow). (e.1.room == e.0.0) && (e.1.fit == e.0.1)) t.fits)
    (list_all (λ (e : ℕ × RoomRow). count_up 1 (map (λ (f : FitRow). f.fit) (fits_at t.fits e.1.room)) && nat_le 1
    (length (fits_at t.fits e.1.room)) && nat_le (length (fits_at t.fits e.1.room)) 99) t.rooms) s.fit_number

-- What the rules say of the fits of a room.
pub fits_said : (t : Rows) → IsSound t → (r : ℕ) (row : RoomRow)
    → at_number t.rooms r ≡ Some row → FitsFor (fits_at t.fits r) row.fit row.before row.lock_place row.notes
fits_said t s r row e =
    let fs : List FitRow = fits_at t.fits row.room in
    let n = found_passes (λ (e : ℕ × RoomRow). count_up 1 (map (λ (f : FitRow). f.fit) (fits_at t.fits e.1.room))
    && nat_le 1 (length (fits_at t.fits e.1.room)) && nat_le (length (fits_at t.fits e.1.room)) 99) t.rooms r row
    (numbered_parts t s).1 e in
    let n1 = and_true (count_up 1 (map (λ (f : FitRow). f.fit) fs) && nat_le 1 (length fs)) (nat_le (length fs) 99) n in
    let n2 = and_true (count_up 1 (map (λ (f : FitRow). f.fit) fs)) (nat_le 1 (length fs)) n1.0 in
    let least = le_from 1 (length fs) n2.1 in
    let last = some_last fs least in
    let held = said_at (last_fit fs) true (λ f. nat_le f.place row.lock_place) last.0 last.1
    (found_passes (λ (e : ℕ × RoomRow). said_of (last_fit (fits_at t.fits e.1.room)) true
    (λ f. nat_le f.place e.1.lock_place)) t.rooms r row s.fit_held e) in
    let noted =
    said_at (last_fit fs) true (λ f. nat_le f.before row.notes) last.0 last.1 (found_passes (λ (e : ℕ × RoomRow).
    said_of (last_fit (fits_at t.fits e.1.room)) true (λ f. nat_le f.before e.1.notes)) t.rooms r row s.fit_noted e) in
    let of_room = and_true (row.fit == last.0.fit) (row.before == last.0.before)
    (said_at (last_fit fs) true (λ f. (row.fit == f.fit) && (row.before == f.before)) last.0 last.1
    (found_passes (λ (e : ℕ × RoomRow). said_of (last_fit (fits_at t.fits e.1.room)) true
    (λ f. (e.1.fit == f.fit) && (e.1.before == f.before))) t.rooms r row s.fit_of_room e)) in
    let fit : row.fit ≡ last.0.fit = eq_from row.fit last.0.fit of_room.0 in
    let before = eq_from row.before last.0.before of_room.1 in
    let count : last.0.fit + 1 ≡ 1 + length fs = last_counts 1 fs last.0 n2.0 last.1 in
    let many : length fs ≡ row.fit = many_is last.0.fit (length fs) row.fit count fit in
    subst (λ z. FitsFor (fits_at t.fits z) row.fit row.before row.lock_place row.notes) (room_is t s r row e)
    (record {
      numbers = n2.0;
      many = many;
      least = least;
      most = le_from (length fs) 99 n1.1;
      first = found_passes (λ (e : ℕ × RoomRow). first_is_first (fits_at t.fits e.1.room)) t.rooms r row s.fit_first e;
      places = found_passes (λ (e : ℕ × RoomRow). are_in_order nat_cmp
          (map (λ (f : FitRow). f.place) (fits_at t.fits e.1.room))) t.rooms r row s.fit_places e;
      rise = found_passes (λ (e : ℕ × RoomRow). none_fall (notes_before_each (fits_at t.fits e.1.room))) t.rooms r row
          s.fit_notes e;
      few = found_passes (λ (e : ℕ × RoomRow). rise_by_few
          (notes_before_each (fits_at t.fits e.1.room) ++ e.1.notes ∷ [])) t.rooms r row s.fit_few e;
      last = (
        last.0,
        last.1,
        sym fit,
        sym before,
        le_from last.0.place row.lock_place held,
        le_from last.0.before row.notes noted,
      );
    })

-- what holds of the fits of a room, with other numbers that are the same
for_same : (fs : List FitRow) (a b c d a' b' c' d' : ℕ)
    → a ≡ a' → b ≡ b' → c ≡ c' → d ≡ d' → FitsFor fs a b c d → FitsFor fs a' b' c' d'
for_same fs a b c d a' b' c' d' p q u v s =
    subst (λ z. FitsFor fs z b' c' d') p
    (subst (λ z. FitsFor fs a z c' d') q (subst (λ z. FitsFor fs a b z d') u (subst (λ z. FitsFor fs a b c z) v s)))

pub fits_for_at_start : (t : Rows) → IsSound t → (r : ℕ) → is_room (start t) r ≡ true
    → FitsFor (fits_at t.fits r) (present_fit (start t) r) (notes_before (start t) r)
    (length (passed (start t) r)) (length (notes (start t) r))
fits_for_at_start t s r there =
    let row = has_row t r there in
    for_same (fits_at t.fits r) row.0.fit row.0.before row.0.lock_place row.0.notes _ _ _ _
    (sym (ap (λ o. said_of o 0 (λ (x : RoomRow). x.fit)) row.1))
    (sym (ap (λ o. said_of o 0 (λ (x : RoomRow). x.before)) row.1))
    (sym (lock_is t s r row.0 row.1)) (sym (notes_counted t s r row.0 row.1)) (fits_said t s r row.0 row.1)

-- each fit of a number of 1 or more, and not after the last
up_to : (n m : ℕ) (fs : List FitRow) → count_up n (map (λ (f : FitRow). f.fit) fs) ≡ true → n + length fs ≤ m + 1
    → list_all (λ (f : FitRow). nat_le f.fit m) fs ≡ true
up_to n m [] up l = refl
up_to n m (a ∷ fs) up l =
    let p = and_true (a.fit == n) (count_up (n + 1) (map (λ (f : FitRow). f.fit) fs)) up in
    let here = eq_from a.fit n p.0 in
    both _ _ (le_tested a.fit m (omega arith)) (up_to (n + 1) m fs p.1 (omega arith))

rest_of : (b : Bool) (p : FitRow → Bool) (f : FitRow) (fs : List FitRow)
    → list_all p (when b (λ xs. f ∷ xs) fs) ≡ true → list_all p fs ≡ true
rest_of true p f fs a = (and_true (p f) (list_all p fs) a).1
rest_of false p f fs a = a

first_of : (b : Bool) (p : FitRow → Bool) (f : FitRow) (fs : List FitRow)
    → b ≡ true → list_all p (when b (λ xs. f ∷ xs) fs) ≡ true → p f ≡ true
first_of true p f fs t a = (and_true (p f) (list_all p fs) a).0
first_of false p f fs t a = not_both false t refl

-- what holds of the fits of each room holds of all
all_by_room : (p : ℕ → FitRow → Bool) (es : List ((ℕ × ℕ) × FitRow))
    → ((r : ℕ) → list_all (p r) (fits_at es r) ≡ true) → list_all (λ (e : (ℕ × ℕ) × FitRow). p e.0.0 e.1) es ≡ true
all_by_room p [] a = refl
all_by_room p (e ∷ es) a =
    both _ _ (first_of (e.0.0 == e.0.0) (p e.0.0) e.1 (fits_at es e.0.0) (eq_self e.0.0) (a e.0.0))
    (all_by_room p es (λ r. rest_of (e.0.0 == r) (p r) e.1 (fits_at es r) (a r)))

-- not after the fit of the room's row, where it has one
abbrev not_after : Rows → ℕ → FitRow → Bool
not_after t r f = not (is_some (at_number t.rooms r)) || nat_le f.fit (said_of (at_number t.rooms r) 0 (λ row. row.fit))

all_pass : (fs : List FitRow) (p : FitRow → Bool) → ((f : FitRow) → p f ≡ true) → list_all p fs ≡ true
all_pass [] p a = refl
all_pass (f ∷ fs) p a = both _ _ (a f) (all_pass fs p a)

none_after : (t : Rows) → IsSound t → (r : ℕ) → list_all (not_after t r) (fits_at t.fits r) ≡ true
none_after t s r = by (at_number t.rooms r) refl
  where
    by : (o : Option RoomRow) → at_number t.rooms r ≡ o → list_all (not_after t r) (fits_at t.fits r) ≡ true
    by None e = all_pass (fits_at t.fits r) (not_after t r)
        (λ f. ap (λ o. not (is_some o) || nat_le f.fit (said_of o 0 (λ (row : RoomRow). row.fit))) e)
    by (Some row) e =
        let f = fits_said t s r row e in
        let many = f.many in
        subst (λ o. list_all (λ (x : FitRow). not (is_some o)
        || nat_le x.fit (said_of o 0 (λ (row : RoomRow). row.fit))) (fits_at t.fits r) ≡ true) (sym e)
        (up_to 1 row.fit (fits_at t.fits r) f.numbers (omega arith))

all_from : (a b c d : (ℕ × ℕ) × FitRow → Bool)
    → ((e : (ℕ × ℕ) × FitRow) → a e ≡ true → b e ≡ true → c e ≡ true → d e ≡ true) → (es : List ((ℕ × ℕ) × FitRow))
    → list_all a es ≡ true → list_all b es ≡ true → list_all c es ≡ true → list_all d es ≡ true
all_from a b c d f [] p q u = refl
all_from a b c d f (e ∷ es) p q u =
    let x = and_true (a e) (list_all a es) p in
    let y = and_true (b e) (list_all b es) q in
    let z = and_true (c e) (list_all c es) u in
    both _ _ (f e x.0 y.0 z.0) (all_from a b c d f es x.1 y.1 z.1)

or_not : (a b : Bool) → a ≡ true → (not a || b) ≡ true → b ≡ true
or_not true b e t = t
or_not false b e t = not_both false e refl

-- Each fit is of its key, of a room that is there, and not after the present one.
pub fits_kept_at_start : (t : Rows) → IsSound t → list_all (λ (e : (ℕ × ℕ) × FitRow). (e.1.room == e.0.0)
    && (e.1.fit == e.0.1) && is_room (start t) e.0.0 && nat_le e.0.1 (present_fit (start t) e.0.0)) t.fits ≡ true
fits_kept_at_start t s =
    all_from (λ e. (e.1.room == e.0.0) && (e.1.fit == e.0.1)) (λ e. is_some (at_number t.rooms e.1.room))
    (λ e. not_after t e.0.0 e.1) _
    (λ e p q u.
    let k = and_true (e.1.room == e.0.0) (e.1.fit == e.0.1) p in
    let there : is_some (at_number t.rooms e.0.0) ≡ true =
    ap (λ z. is_some (at_number t.rooms z)) (sym (eq_from e.1.room e.0.0 k.0)) ∙ q in
    both _ _ (both _ _ p (room_there_is t e.0.0 ∙ there))
    (ap (λ z. nat_le z (present_fit (start t) e.0.0)) (sym (eq_from e.1.fit e.0.1 k.1))
    ∙ or_not (is_some (at_number t.rooms e.0.0)) _ there u))
    t.fits (numbered_parts t s).0 s.fit_room (all_by_room (not_after t) t.fits (none_after t s))

-- Where there is no room nothing was taken before its present fit.
pub nothing_before_at_start : (t : Rows) (r : ℕ) → is_room (start t) r ≡ false → notes_before (start t) r ≡ 0
nothing_before_at_start t r e = ap (λ o. said_of o 0 (λ (row : RoomRow). row.before)) (not_there t r e)
