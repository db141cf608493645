-- The fits of one room, as a list: what holds of them, and of one more.
use Rattle.std.proofs.Common.{ℕ, suc, ◌≡◌, ◌≤◌, ◌<◌, ◌+◌, ◌-◌, true, false, Option, Some, None, List, [], ◌∷◌, ◌++◌}
use Rattle.std.specs.List.{last_or}
use Rattle.std.proofs.Common.{drop, map, length, refl, ap, sym, ◌∙◌, arith, length-append, filter, ◌==◌, ◌||◌, nat_le}
use Rattle.std.proofs.Common.{nat_cmp, is_lt}
use Rattle.hotel_model.proofs.Names.{nat_tests, list_all, list_any, Note, FitRow, fit_row, last_fit, count_up}
use Rattle.hotel_model.proofs.Names.{are_in_order, first_is_first, none_fall, notes_before_each, rise_by_few}
use Rattle.hotel_model.proofs.OfTables.Tests.{le_from, le_tested, not_higher, and_true}
use Rattle.hotel_model.proofs.{OfTables.RowTests.both, OfTables.AtRoom.first_in, OfTables.AtRoom.counts_next}

pub map_more : {X Y : Type 0} (f : X → Y) (xs : List X) (x : X) → map f (xs ++ x ∷ []) ≡ map f xs ++ f x ∷ []
map_more f [] x = refl
map_more f (y ∷ ys) x = ap (λ zs. f y ∷ zs) (map_more f ys x)

pub length_mapped : {X Y : Type 0} (f : X → Y) (xs : List X) → length (map f xs) ≡ length xs
length_mapped f [] = refl
length_mapped f (x ∷ xs) = let e = length_mapped f xs in omega arith

pub last_more : (fs : List FitRow) (f : FitRow) → last_fit (fs ++ f ∷ []) ≡ Some f
last_more [] f = refl
last_more (a ∷ []) f = refl
last_more (a ∷ b ∷ fs) f = last_more (b ∷ fs) f

less : (a b : ℕ) → a < b → is_lt (nat_cmp a b) ≡ true
less a b l = grind (arith, nat_tests)

less_from : (a b : ℕ) → is_lt (nat_cmp a b) ≡ true → a < b
less_from a b e = grind (arith, nat_tests)

places_more : (fs : List FitRow) (x : FitRow) → are_in_order nat_cmp (map (λ (f : FitRow). f.place) fs) ≡ true
    → ((f : FitRow) → last_fit fs ≡ Some f → f.place < x.place)
    → are_in_order nat_cmp (map (λ (f : FitRow). f.place) (fs ++ x ∷ [])) ≡ true
places_more [] x o l = refl
places_more (a ∷ []) x o l = both _ _ (less a.place x.place (l a refl)) refl
places_more (a ∷ b ∷ fs) x o l =
    let p =
    and_true (is_lt (nat_cmp a.place b.place)) (are_in_order nat_cmp (map (λ (f : FitRow). f.place) (b ∷ fs))) o in
    both _ _ p.0 (places_more (b ∷ fs) x p.1 l)

rise_more : (fs : List FitRow) (x : FitRow) → none_fall (notes_before_each fs) ≡ true
    → ((f : FitRow) → last_fit fs ≡ Some f → f.before ≤ x.before) → none_fall (notes_before_each (fs ++ x ∷ [])) ≡ true
rise_more [] x o l = refl
rise_more (a ∷ []) x o l = both _ _ (le_tested a.before x.before (l a refl)) refl
rise_more (a ∷ b ∷ fs) x o l =
    let p = and_true (nat_le a.before b.before) (none_fall (notes_before_each (b ∷ fs))) o in
    both _ _ p.0 (rise_more (b ∷ fs) x p.1 l)

few_more : (fs : List FitRow) (x : FitRow) (n : ℕ) → rise_by_few (notes_before_each fs ++ x.before ∷ []) ≡ true
    → n - x.before ≤ 9999999 → rise_by_few (notes_before_each (fs ++ x ∷ []) ++ n ∷ []) ≡ true
few_more [] x n o l = both _ _ (le_tested (n - x.before) 9999999 l) refl
few_more (a ∷ []) x n o l =
    let p = and_true (nat_le (x.before - a.before) 9999999) true o in
    both _ _ p.0 (both _ _ (le_tested (n - x.before) 9999999 l) refl)
few_more (a ∷ b ∷ fs) x n o l =
    let p =
    and_true (nat_le (b.before - a.before) 9999999) (rise_by_few (notes_before_each (b ∷ fs) ++ x.before ∷ [])) o in
    both _ _ p.0 (few_more (b ∷ fs) x n p.1 l)

few_to : (fs : List FitRow) (n m : ℕ) → rise_by_few (notes_before_each fs ++ n ∷ []) ≡ true
    → ((f : FitRow) → last_fit fs ≡ Some f → m - f.before ≤ 9999999)
    → rise_by_few (notes_before_each fs ++ m ∷ []) ≡ true
few_to [] n m o l = refl
few_to (a ∷ []) n m o l = both _ _ (le_tested (m - a.before) 9999999 (l a refl)) refl
few_to (a ∷ b ∷ fs) n m o l =
    let p = and_true (nat_le (b.before - a.before) 9999999) (rise_by_few (notes_before_each (b ∷ fs) ++ n ∷ [])) o in
    both _ _ p.0 (few_to (b ∷ fs) n m p.1 l)

first_more : (fs : List FitRow) (x : FitRow)
    → 1 ≤ length fs → first_is_first fs ≡ true → first_is_first (fs ++ x ∷ []) ≡ true
first_more [] x l e = absurd (omega arith)
first_more (a ∷ fs) x l e = e

-- What holds of the fits of a room: its present one is this, so many notes were taken before it, so many codes are
-- passed, so many notes taken.
pub record FitsFor (fs : List FitRow) (present before passed taken : ℕ) : Type 0 where
  pub numbers : count_up 1 (map (λ (f : FitRow). f.fit) fs) ≡ true
  pub many : length fs ≡ present
  pub least : 1 ≤ length fs
  pub most : length fs ≤ 99
  pub first : first_is_first fs ≡ true
  pub places : are_in_order nat_cmp (map (λ (f : FitRow). f.place) fs) ≡ true
  pub rise : none_fall (notes_before_each fs) ≡ true
  pub few : rise_by_few (notes_before_each fs ++ taken ∷ []) ≡ true
  pub last : (f : FitRow) × (last_fit fs ≡ Some f) × (f.fit ≡ present) × (f.before ≡ before)
      × (f.place ≤ passed) × (f.before ≤ taken)

-- the fits of a new room
pub first_fits_for : (room : ℕ) → FitsFor (fit_row room 1 0 0 ∷ []) 1 0 0 0
first_fits_for room = record {
  numbers = refl;
  many = refl;
  least = omega arith;
  most = omega arith;
  first = refl;
  places = refl;
  rise = refl;
  few = refl;
  last = (fit_row room 1 0 0, refl, refl, refl, omega arith, omega arith);
}

same_fit : (o : Option FitRow) (a b : FitRow) → o ≡ Some a → o ≡ Some b → a ≡ b
same_fit o a b e f = let w : Some a ≡ Some b = sym e ∙ f in cc

-- of the last fit
pub last_so : (fs : List FitRow) (present before passed taken : ℕ)
    → FitsFor fs present before passed taken → (f : FitRow)
    → last_fit fs ≡ Some f → (f.fit ≡ present) × (f.before ≡ before) × (f.place ≤ passed) × (f.before ≤ taken)
last_so fs present before passed taken s f e =
    let same : s.last.0 ≡ f = same_fit (last_fit fs) s.last.0 f s.last.1 e in
    let place : s.last.0.place ≡ f.place = ap (λ (x : FitRow). x.place) same in
    let notes : s.last.0.before ≡ f.before = ap (λ (x : FitRow). x.before) same in
    let low = s.last.4 in
    let few = s.last.5 in
    (ap (λ (x : FitRow). x.fit) (sym same) ∙ s.last.2, sym notes ∙ s.last.3, omega arith, omega arith)

-- with the next fit
pub refit_for : (fs : List FitRow) (present before passed taken room place : ℕ)
    → FitsFor fs present before passed taken → passed < place → present < 99
    → FitsFor (fs ++ fit_row room (present + 1) place taken ∷ []) (present + 1) taken place taken
refit_for fs present before passed taken room place s l n =
    let x = fit_row room (present + 1) place taken in
    let many = s.many in
    let same = length_mapped (λ (f : FitRow). f.fit) fs in
    let next : present + 1 ≡ 1 + length (map (λ (f : FitRow). f.fit) fs) = omega arith in
    record {
      numbers = ap (λ ns. count_up 1 ns) (map_more (λ (f : FitRow). f.fit) fs x)
          ∙ counts_next 1 (map (λ (f : FitRow). f.fit) fs) (present + 1) s.numbers next;
      many = omega (arith, many, length-append fs (x ∷ []));
      least = omega (arith, length-append fs (x ∷ []));
      most = omega (arith, many, length-append fs (x ∷ []));
      first = first_more fs x s.least s.first;
      places =
          places_more fs x s.places (λ f e. let p = (last_so fs present before passed taken s f e).2 in omega arith);
      rise = rise_more fs x s.rise (λ f e. (last_so fs present before passed taken s f e).3);
      few = few_more fs x taken s.few (omega arith);
      last = (x, last_more fs x, refl, refl, omega arith, omega arith);
    }

-- with a note, or without one
pub noted_for : (fs : List FitRow) (present before passed passed' taken taken' : ℕ)
    → FitsFor fs present before passed taken → passed ≤ passed' → taken ≤ taken' → taken' - before ≤ 9999999
    → FitsFor fs present before passed' taken'
noted_for fs present before passed passed' taken taken' s p t few = record {
  numbers = s.numbers;
  many = s.many;
  least = s.least;
  most = s.most;
  first = s.first;
  places = s.places;
  rise = s.rise;
  few = few_to fs taken taken' s.few (λ f e. let b = (last_so fs present before passed taken s f e).1 in omega arith);
  last =
      let place = s.last.4 in let notes = s.last.5 in
      (s.last.0, s.last.1, s.last.2, s.last.3, omega arith, omega arith);
}

-- few notes are of the present fit
pub few_for : (fs : List FitRow) (present before passed taken : ℕ)
    → FitsFor fs present before passed taken → taken - before ≤ 9999999
few_for fs present before passed taken s = by fs s.last.0 s.last.1 s.few s.last.3
  where
    by : (gs : List FitRow) (f : FitRow) → last_fit gs ≡ Some f
        → rise_by_few (notes_before_each gs ++ taken ∷ []) ≡ true → f.before ≡ before → taken - before ≤ 9999999
    by [] f e o b = cc
    by (a ∷ []) f e o b =
        let same : a ≡ f = same_fit (Some a) a f refl e in
        let first : a.before ≡ f.before = ap (λ (x : FitRow). x.before) same in
        let l = le_from (taken - a.before) 9999999 (and_true (nat_le (taken - a.before) 9999999) true o).0 in
        omega arith
    by (a ∷ c ∷ gs) f e o b = by (c ∷ gs) f e
        (and_true (nat_le (c.before - a.before) 9999999) (rise_by_few (notes_before_each (c ∷ gs) ++ taken ∷ [])) o).1 b

-- where codes go on, the notes stay
pub passed_for : (fs : List FitRow) (present before passed passed' taken : ℕ)
    → FitsFor fs present before passed taken → passed ≤ passed' → FitsFor fs present before passed' taken
passed_for fs present before passed passed' taken s p =
    noted_for fs present before passed passed' taken taken s p (omega arith) (few_for fs present before passed taken s)

-- no fit begins at a place past that of the last one
pub none_begins : (fs : List FitRow) (place : ℕ) → are_in_order nat_cmp (map (λ (f : FitRow). f.place) fs) ≡ true
    → ((f : FitRow) → last_fit fs ≡ Some f → f.place < place) → list_any (λ (f : FitRow). f.place == place) fs ≡ false
none_begins [] place o l = refl
none_begins (a ∷ []) place o l = ap (λ z. z || false) (not_higher a.place place (l a refl))
none_begins (a ∷ b ∷ fs) place o l =
    let p =
    and_true (is_lt (nat_cmp a.place b.place)) (are_in_order nat_cmp (map (λ (f : FitRow). f.place) (b ∷ fs))) o in
    let later = none_begins (b ∷ fs) place p.1 l in
    let low = less_from a.place b.place p.0 in
    let last = under_last b fs p.1 in
    let lt = l last.0 last.1 in
    let le = last.2 in
    let apart : (a.place == place) ≡ false = not_higher a.place place (omega arith) in
    ap (λ z. z || list_any (λ (f : FitRow). f.place == place) (b ∷ fs)) apart ∙ later
  where
    under_last : (c : FitRow) (gs : List FitRow) → are_in_order nat_cmp (map (λ (f : FitRow). f.place) (c ∷ gs)) ≡ true
        → (f : FitRow) × (last_fit (c ∷ gs) ≡ Some f) × (c.place ≤ f.place)
    under_last c [] o = (c, refl, omega arith)
    under_last c (d ∷ gs) o =
        let q =
        and_true (is_lt (nat_cmp c.place d.place)) (are_in_order nat_cmp (map (λ (f : FitRow). f.place) (d ∷ gs))) o in
        let m = under_last d gs q.1 in
        let lt = less_from c.place d.place q.0 in
        let le = m.2 in
        (m.0, m.1, omega arith)

-- the last item is the one after all others
pub last_is_at : {A : Type 0} (xs : List A) → first_in (drop (length xs - 1) xs) ≡ last_or None xs
last_is_at [] = refl
last_is_at (a ∷ []) = refl
last_is_at (a ∷ b ∷ xs) =
    let n : length (a ∷ b ∷ xs) - 1 ≡ suc (length (b ∷ xs) - 1) = omega arith in
    ap (λ k. first_in (drop k (a ∷ b ∷ xs))) n ∙ last_is_at (b ∷ xs)

-- No note is of a later fit than the present one, and those of the present one are the ones after so many.
abbrev pub NotesFor : ℕ → ℕ → List Note → Type 0
NotesFor present before taken = (list_all (λ (note : Note). nat_le note.fit present) taken ≡ true)
    × (before + length (filter (λ (note : Note). note.fit == present) taken) ≡ length taken)
