-- The fit of a note's number: where it stands among the fits of the room.
use Rattle.std.proofs.Common.{ℕ, zero, suc, ◌≡◌, ◌≤◌, ◌<◌, ◌+◌, refl, ap, sym, subst, ◌∙◌, arith}
use Rattle.std.proofs.Common.{Bool, true, false, cond, ◌==◌, nat_le, nat_lt}
use Rattle.std.proofs.Common.{Option, Some, None, List, [], ◌∷◌, map, filter, drop, length}
use Rattle.hotel_model.specs.declared.rows.FitRow.{FitRow}
use Rattle.hotel_books.proofs.Names.{nat_tests, list_all, is_at, lookup, said_of, when, pair_cmp, fits_at, last_fit}
use Rattle.hotel_books.proofs.Names.{count_up, first_is_first}
use Rattle.hotel_model.proofs.OfTables.Tests.{eq_from, and_true, not_both}
use Rattle.hotel_model.proofs.OfTables.AtRoom.{first_in, none_in, keys_at, found_at, fits_are_picked}
use Rattle.hotel_rows.specs.Joined.{fit_of_number, FitEntries}

-- ---- numbers

less_from : (a b : ℕ) → nat_lt a b ≡ true → a < b
less_from a b e = grind (arith, nat_tests)

not_less_from : (a b : ℕ) → nat_lt a b ≡ false → nat_le b a ≡ true
not_less_from a b e = grind (arith, nat_tests)

less_so : (a b : ℕ) → a < b → nat_lt a b ≡ true
less_so a b l = grind (arith, nat_tests)

-- ---- fits of one room

-- fewer notes than this number were taken before the fit
abbrev pub is_under : ℕ → FitRow → Bool
is_under n f = nat_lt f.before n

-- the numbers of fits
abbrev pub numbers_of : List FitRow → List ℕ
numbers_of fits = map (λ (f : FitRow). f.fit) fits

same_fit : {a b : FitRow} → Some a ≡ Some b → a ≡ b
same_fit e = cc

no_fit : {P : Type 0} (f : FitRow) → ◌≡◌ {A = Option FitRow} None (Some f) → P
no_fit f e = absurd (let w : ◌≡◌ {A = Option FitRow} None (Some f) = e in cc)

-- the last of some fits, or one before them all
abbrev or_first : Option FitRow → FitRow → FitRow
or_first (Some g) f = g
or_first None f = f

last_of_more : (f : FitRow) (fs : List FitRow) → last_fit (f ∷ fs) ≡ Some (or_first (last_fit fs) f)
last_of_more f [] = refl
last_of_more f (g ∷ gs) = last_of_more g gs ∙ ap Some (sym (ap (λ o. or_first o f) (last_of_more g gs)))

-- the fit of a number, by the first fit and the others
more_by : (n : ℕ) (f : FitRow) (fs : List FitRow) (b : Bool) → is_under n f ≡ b
    → fit_of_number (f ∷ fs) n ≡ cond b (Some (or_first (fit_of_number fs n) f)) (fit_of_number fs n)
more_by n f fs true e = ap (λ b. last_fit (cond b (f ∷ filter (is_under n) fs) (filter (is_under n) fs))) e
    ∙ last_of_more f (filter (is_under n) fs)
more_by n f fs false e = ap (λ b. last_fit (cond b (f ∷ filter (is_under n) fs) (filter (is_under n) fs))) e

-- no note up to this number was taken after the first of the fits began, if there is one
abbrev pub begins_later : ℕ → List FitRow → Bool
begins_later n fs = said_of (first_in fs) true (λ f. nat_le n f.before)

-- The fit after j is that of the number: it has fewer notes before it, and the next one has not.
abbrev pub Stands : List FitRow → ℕ → FitRow → ℕ → Type 0
Stands fs n f j = (first_in (drop j fs) ≡ Some f) × (f.before < n) × (begins_later n (drop (suc j) fs) ≡ true)

-- where no fit has fewer notes before it, the first has not
none_under : (n : ℕ) (fs : List FitRow) → fit_of_number fs n ≡ None → begins_later n fs ≡ true
none_under n [] e = refl
none_under n (f ∷ fs) e = by (is_under n f) refl
  where
    by : (b : Bool) → is_under n f ≡ b → nat_le n f.before ≡ true
    by true t = let some = sym (more_by n f fs true t) ∙ e in
        absurd (let w : ◌≡◌ {A = Option FitRow} (Some _) None = some in cc)
    by false t = not_less_from f.before n t

-- Where the fit of a number stands.
pub stands_at : (n : ℕ) (fs : List FitRow) (f : FitRow) → fit_of_number fs n ≡ Some f → (j : ℕ) × Stands fs n f j
stands_at n [] f e = no_fit f e
stands_at n (a ∷ fs) f e = by (is_under n a) (fit_of_number fs n) refl refl (stands_at n fs)
  where
    later : (j : ℕ) × Stands fs n f j → (j : ℕ) × Stands (a ∷ fs) n f j
    later p = (suc p.0, p.1)

    by : (b : Bool) (o : Option FitRow) → is_under n a ≡ b → fit_of_number fs n ≡ o
        → ((g : FitRow) → fit_of_number fs n ≡ Some g → (j : ℕ) × Stands fs n g j) → (j : ℕ) × Stands (a ∷ fs) n f j
    by false o t g ih = later (ih f (sym (more_by n a fs false t) ∙ e))
    by true (Some x) t g ih =
        let same : Some x ≡ Some f = sym (ap (λ o. Some (or_first o a)) g) ∙ sym (more_by n a fs true t) ∙ e in
        later (ih f (g ∙ same))
    by true None t g ih =
        let same : Some a ≡ Some f = sym (ap (λ o. Some (or_first o a)) g) ∙ sym (more_by n a fs true t) ∙ e in
        let below = subst (λ (x : FitRow). x.before < n) (same_fit same) (less_from a.before n t) in
        (0, (same, below, none_under n fs g))

-- a number has a fit, where some fit has fewer notes before it
some_under : (n j : ℕ) (fs : List FitRow) (f : FitRow) → first_in (drop j fs) ≡ Some f → f.before < n
    → (g : FitRow) × (fit_of_number fs n ≡ Some g)
some_under n j [] f e l = no_fit f (sym (none_in j) ∙ e)
some_under n zero (a ∷ fs) f e l =
    let below = less_so a.before n (subst (λ (x : FitRow). x.before < n) (sym (same_fit e)) l) in
    (or_first (fit_of_number fs n) a, more_by n a fs true below)
some_under n (suc j) (a ∷ fs) f e l = by (is_under n a) refl (some_under n j fs f e l)
  where
    by : (b : Bool) → is_under n a ≡ b → (g : FitRow) × (fit_of_number fs n ≡ Some g)
        → (g : FitRow) × (fit_of_number (a ∷ fs) n ≡ Some g)
    by true t p = (or_first (fit_of_number fs n) a, more_by n a fs true t)
    by false t p = (p.0, more_by n a fs false t ∙ p.1)

-- A number of 1 or more has a fit, where the first fit has no note before it.
pub has_fit : (n : ℕ) (fs : List FitRow) → 1 ≤ n → nat_le 1 (length fs) ≡ true → first_is_first fs ≡ true
    → (f : FitRow) × (fit_of_number fs n ≡ Some f)
has_fit n [] l some first = not_both false some refl
has_fit n (f ∷ fs) l some first =
    let none : f.before ≡ 0 = eq_from f.before 0 (and_true (f.place == 0) (f.before == 0) first).1 in
    some_under n 0 (f ∷ fs) f refl (omega arith)

-- the number of the fit after j
pub number_at : (k j : ℕ) (fs : List FitRow) (f : FitRow) → count_up k (numbers_of fs) ≡ true
    → first_in (drop j fs) ≡ Some f → f.fit ≡ k + j
number_at k j [] f up e = no_fit f (sym (none_in j) ∙ e)
number_at k zero (a ∷ fs) f up e =
    let here = eq_from a.fit k (and_true (a.fit == k) (count_up (k + 1) (numbers_of fs)) up).0 in
    let same : a.fit ≡ f.fit = ap (λ (x : FitRow). x.fit) (same_fit e) in
    omega arith
number_at k (suc j) (a ∷ fs) f up e =
    let later = number_at (k + 1) j fs f (and_true (a.fit == k) (count_up (k + 1) (numbers_of fs)) up).1 e in
    omega arith

-- ---- fits of all rooms

-- the numbers of a room's fits are those of its keys, where each row is of its key
pub keys_are_numbers : (fits : FitEntries) (room : ℕ)
    → list_all (λ (e : (ℕ × ℕ) × FitRow). e.1.fit == e.0.1) fits ≡ true
    → keys_at fits room ≡ numbers_of (fits_at fits room)
keys_are_numbers [] room own = refl
keys_are_numbers (e ∷ fits) room own =
    let p = and_true (e.1.fit == e.0.1) (list_all (λ (e : (ℕ × ℕ) × FitRow). e.1.fit == e.0.1) fits) own in
    by (e.0.0 == room) (sym (eq_from e.1.fit e.0.1 p.0)) (keys_are_numbers fits room p.1)
  where
    by : (b : Bool) → e.0.1 ≡ e.1.fit → keys_at fits room ≡ numbers_of (fits_at fits room)
        → when b (λ ns. e.0.1 ∷ ns) (keys_at fits room) ≡ numbers_of (when b (λ fs. e.1 ∷ fs) (fits_at fits room))
    by true same ih = ap (λ n. n ∷ keys_at fits room) same ∙ ap (λ ns. e.1.fit ∷ ns) ih
    by false same ih = ih

-- the fit after j is found by its number
pub fit_found : (fits : FitEntries) (room j : ℕ) → list_all (λ (e : (ℕ × ℕ) × FitRow). e.1.fit == e.0.1) fits ≡ true
    → count_up 1 (numbers_of (fits_at fits room)) ≡ true
    → lookup (is_at (pair_cmp (room, 1 + j))) fits ≡ first_in (drop j (fits_at fits room))
fit_found fits room j own up =
    found_at fits room 1 j (ap (count_up 1) (keys_are_numbers fits room own) ∙ up)
    ∙ ap (λ fs. first_in (drop j fs)) (sym (fits_are_picked fits room))
