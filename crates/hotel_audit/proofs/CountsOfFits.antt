-- The notes of each fit of a room are counted from 1, and each is found by its count.
use Rattle.std.proofs.Common.{◌≡◌, ◌∙◌, ◌+◌, ◌-◌, ◌≤◌, ℕ, zero, suc, Bool, true, false, cond, List, [], ◌∷◌, Option}
use Rattle.std.proofs.Common.{Some, None, length, drop, filter, map, refl, ap, sym, arith, ◌==◌, nat_le, slice_get}
use Rattle.std.proofs.Common.{is_eq, Ordering, Equal}
use Rattle.hotel_books.proofs.Names.{Note, Rows, History, Reached, fit_at, fits, fits_at, is_at, is_of_fit, is_room}
use Rattle.hotel_books.proofs.Names.{list_all, lookup, note_at, note_numbered, notes_of, of_fit, pair_cmp}
use Rattle.hotel_books.proofs.Names.{range_with_len, rows_of, said_of, count_up}
use Rattle.hotel_model.proofs.{OfTables.AtRoom.first_in, OfTables.AtRoom.found_at, OfTables.AtRoom.fits_are_picked}
use Rattle.hotel_model.proofs.{OfTables.AtRoom.keys_at, OfTables.AtRoom.none_in, OfTables.Pairs.pair_exact}
use Rattle.hotel_model.proofs.{OfTables.Tests.and_true, OfTables.Tests.eq_from}
use Rattle.hotel_model.proofs.{Starts.StartRules.said_at, Invariants.FitsKept.fits_kept, Invariants.FitsKept.no_fits}
use Rattle.hotel_model.proofs.{Invariants.FitsKept.numbers_of_fits, Invariants.NoRooms.nothing_noted}
use Rattle.hotel_model.proofs.{Lifted.NotesFound.note_found, SoundRows.AllSound.rows_sound}
use Rattle.hotel_model.specs.declared.rows.FitRow.{FitRow}
use Rattle.hotel_audit.specs.FilesCounted.{NotesCounted}

tested : (o : Ordering) → is_eq o ≡ true → o ≡ Equal
tested Equal e = refl
tested _ e = cc

-- a row that is found by its key passes what all rows pass
found_passes : {X : Type 0} (t : (ℕ × ℕ) × X → Bool) (es : List ((ℕ × ℕ) × X)) (k : ℕ × ℕ) (v : X)
    → list_all t es ≡ true → lookup (is_at (pair_cmp k)) es ≡ Some v → t (k, v) ≡ true
found_passes t [] k v all h = cc
found_passes {X} t (e ∷ es) k v all h =
    let p = and_true (t e) (list_all t es) all in
    by (is_at (pair_cmp k) e.0) refl h p.0 (found_passes t es k v p.1)
  where
    by : (b : Bool) → is_at (pair_cmp k) e.0 ≡ b → cond b (Some e.1) (lookup (is_at (pair_cmp k)) es) ≡ Some v
        → t e ≡ true
        → (lookup (is_at (pair_cmp k)) es ≡ Some v → t (k, v) ≡ true) → t (k, v) ≡ true
    by true s g here ih =
        let w : e.1 ≡ v = cc in
        let same : k ≡ e.0 = pair_exact k e.0 (tested (pair_cmp k e.0) s) in
        ap (λ z. t (z, v)) same ∙ ap (λ z. t (e.0, z)) (sym w) ∙ here
    by false s g here ih = ih g

of_fit_is : (fit : ℕ) (o : Option Note) (note : Note) → of_fit fit o ≡ Some note → (note.fit ≡ fit) × (o ≡ Some note)
of_fit_is fit None note e = cc
of_fit_is fit (Some n) note e = by (n.fit == fit) refl e
  where
    by : (b : Bool) → (n.fit == fit) ≡ b → cond b (Some n) None ≡ Some note → (note.fit ≡ fit) × (Some n ≡ Some note)
    by true q g = let same : n ≡ note = cc in (ap (λ (z : Note). z.fit) (sym same) ∙ eq_from n.fit fit q, g)
    by false q g = cc

-- the note of a fit and a count has that count
found_count : (t : Rows) → list_all (is_of_fit t) t.notes ≡ true → (r fit c : ℕ) (note : Note)
    → note_at t r fit c ≡ Some note → note.count ≡ c
found_count t all r fit c note e = by (fit_at t r fit) refl
  where
    at : Option FitRow → Option Note
    at o = said_of o None (λ (f : FitRow). of_fit fit (note_numbered t r (f.before + c)))

    by : (o : Option FitRow) → fit_at t r fit ≡ o → note.count ≡ c
    by None q = let none : at None ≡ Some note = ap at (sym q) ∙ e in cc
    by (Some f) q =
        let found = of_fit_is fit (note_numbered t r (f.before + c)) note (ap at (sym q) ∙ e) in
        let passes = and_true _ _ (found_passes (is_of_fit t) t.notes (r, f.before + c) note all found.1) in
        let here = (and_true (nat_le 1 note.count) _ passes.0).1 in
        let same : fit_at t r note.fit ≡ Some f = ap (fit_at t r) found.0 ∙ q in
        let its_number : FitRow → Bool = λ g. f.before + c == g.before + note.count in
        let its = said_at (fit_at t r note.fit) false its_number f same here in
        let number : f.before + c ≡ f.before + note.count = eq_from (f.before + c) (f.before + note.count) its in
        omega arith

counts_from : (n : ℕ) (taken : List Note)
    → ((k : ℕ) (note : Note) → first_in (drop k taken) ≡ Some note → note.count ≡ n + k)
    → map (λ (x : Note). x.count) taken ≡ range_with_len n (length taken)
counts_from n [] its = refl
counts_from n (note ∷ taken) its =
    let first : note.count ≡ n = its 0 note refl ∙ (let z : n + 0 ≡ n = omega arith in z) in
    ap (λ z. z ∷ map (λ (x : Note). x.count) taken) first ∙ ap (λ zs. n ∷ zs) (counts_from (n + 1) taken later)
  where
    later : (k : ℕ) (x : Note) → first_in (drop k taken) ≡ Some x → x.count ≡ (n + 1) + k
    later k x e = its (suc k) x e ∙ (let z : n + suc k ≡ (n + 1) + k = omega arith in z)

first_is : {X : Type 0} (k : ℕ) (xs : List X) → first_in (drop k xs) ≡ slice_get xs k
first_is k [] = none_in k
first_is zero (x ∷ xs) = refl
first_is (suc k) (x ∷ xs) = first_is k xs

-- no fit is found at a room that isn't there
no_fit : (h : History) → Reached h → (r fit : ℕ) → is_room h r ≡ false → fit_at (rows_of h) r fit ≡ None
no_fit h ok r fit none =
    let empty : fits_at (fits h) r ≡ [] = no_fits h ok r none in
    let numbers = numbers_of_fits h r (fits h) (fits_kept h ok) in
    let keys : keys_at (fits h) r ≡ [] = numbers ∙ ap (map (λ (f : FitRow). f.fit)) empty in
    let m : fit ≡ 0 + fit = omega arith in
    ap (fit_at (rows_of h) r) m ∙ found_at (fits h) r 0 fit (ap (λ ns. count_up 0 ns) keys)
    ∙ ap (λ fs. first_in (drop fit fs)) (sym (fits_are_picked (fits h) r) ∙ empty) ∙ none_in fit

pub notes_counted : NotesCounted
notes_counted h ok r fit = by (is_room h r) refl
  where
    its : List Note
    its = notes_of h r fit

    found : Type 0
    found = (count : ℕ) → 1 ≤ count → note_at (rows_of h) r fit count ≡ slice_get its (count - 1)

    counted : is_room h r ≡ true → (k : ℕ) (note : Note) → first_in (drop k its) ≡ Some note → note.count ≡ 1 + k
    counted there k note e =
        let at = note_found h ok r fit (k + 1) there (omega arith) in
        let back : (k + 1) - 1 ≡ k = omega arith in
        let this : note_at (rows_of h) r fit (k + 1) ≡ Some note = at ∙ ap (λ z. first_in (drop z its)) back ∙ e in
        let its_count = found_count (rows_of h) (rows_sound h ok).note_of_fit r fit (k + 1) note this in
        omega (arith, its_count)

    none_found : is_room h r ≡ false → its ≡ [] → found
    none_found none empty count one =
        let no_row = no_fit h ok r fit none in
        ap (λ o. said_of o None (λ (f : FitRow). of_fit fit (note_numbered (rows_of h) r (f.before + count)))) no_row
        ∙ sym (ap (λ zs. slice_get zs (count - 1)) empty ∙ sym (first_is (count - 1) []) ∙ none_in (count - 1))

    by : (b : Bool) → is_room h r ≡ b → (map (λ (x : Note). x.count) its ≡ range_with_len 1 (length its)) × found
    by true there =
        let at : found = λ count one. note_found h ok r fit count there one ∙ first_is (count - 1) its in
        (counts_from 1 its (counted there), at)
    by false none =
        let empty : its ≡ [] = ap (filter (λ (x : Note). x.fit == fit)) (nothing_noted h ok r none) in
        let none_counted = ap (λ (zs : List Note). range_with_len 1 (length zs)) (sym empty) in
        (ap (map (λ (x : Note). x.count)) empty ∙ none_counted, none_found none empty)
