-- The fits of each room: numbered from 1 to the present one, each after the others.
use Rattle.std.proofs.Common.{ℕ, ◌≡◌, ◌≤◌, ◌<◌, ◌+◌, ◌*◌, ◌-◌, Bool, true, false, Some, None, List, [], ◌∷◌, ◌++◌, map}
use Rattle.std.proofs.Common.{length, inl, inr, refl, ap, sym, ◌∙◌, subst, arith, length-append, ◌==◌, ◌&&◌, nat_le}
use Rattle.std.proofs.lemmas.Bool.{leb-false}
use Rattle.hotel_model.proofs.Names.{list_any, Note, FitRow, fit_row, fits, fits_at, fit_at, begins_fit, present_fit}
use Rattle.hotel_model.proofs.Names.{notes_before, notes, when, and_last, before, last_fit_place, said_of}
use Rattle.hotel_model.proofs.Names.{first_is_first, notes_before_each, rise_by_few, Event, Install, Refitted, Entered}
use Rattle.hotel_model.proofs.Names.{Left, Recoded, History, start, ◌▷◌, rooms, issued, held, passed, awaited, turns}
use Rattle.hotel_model.proofs.Names.{is_room, rows_of, Reached, note_from}
use Rattle.keycard_rules.specs.declared.note.Act.TheVariants as act
use Rattle.hotel_model.proofs.{OfTables.Tests.eq_from, OfTables.Tests.either_way, OfTables.Tests.and_true}
use Rattle.hotel_model.proofs.{OfTables.Tests.le_from, OfTables.Tests.or_second, OfTables.TableKeys.key_inserted}
use Rattle.hotel_model.proofs.OfTables.FitLists.{FitsFor, first_fits_for, refit_for, noted_for, passed_for, none_begins}
use Rattle.hotel_model.proofs.OfTables.FitLists.{last_is_at, length_mapped}
use Rattle.hotel_model.proofs.{OfTables.NotesKept.none_past, OfTables.Grown.may_follow}
use Rattle.hotel_model.proofs.{Invariants.EventRanges.last_in_range, Invariants.FitsKept.fits_installed}
use Rattle.hotel_model.proofs.{Invariants.FitsKept.fits_refitted}
use Rattle.hotel_model.proofs.{Invariants.FitsKept.no_fits, Invariants.FitsKept.fit_found}
use Rattle.hotel_model.proofs.{Invariants.NotesOfFits.next_number, Invariants.NotesOfFits.nothing_before}
use Rattle.hotel_model.proofs.{Invariants.LedgerOrder.ledger_holds, Invariants.NumbersLeft.has_number}
use Rattle.hotel_model.proofs.{Invariants.NoRooms.nothing_passed, Invariants.NoRooms.nothing_noted}
use Rattle.hotel_model.proofs.{Starts.StartFits.fits_for_at_start}

-- what holds of the fits of a room
abbrev pub FitsOf : History → ℕ → Type 0
FitsOf h r =
    FitsFor (fits_at (fits h) r) (present_fit h r) (notes_before h r) (length (passed h r)) (length (notes h r))

-- more codes are passed at a room
pub passed_grow : (h : History) (event : Event) (r : ℕ) → length (passed h r) ≤ length (passed (h ▷ event) r)
passed_grow h (Refitted room fit code) r = by (room == r)
  where
    by : (b : Bool)
        → length (passed h r) ≤ length (when b (λ codes. codes ++ held h room ∷ awaited h room) (passed h r))
    by true = omega (arith, length-append (passed h r) (held h room ∷ awaited h room))
    by false = omega arith
passed_grow h (Entered room fit count number link at) r = by ((room == r) && turns h room link)
  where
    by : (b : Bool) → length (passed h r) ≤ length (when b (and_last link.old_code) (passed h r))
    by true = omega (arith, length-append (passed h r) (link.old_code ∷ []))
    by false = omega arith
passed_grow h (Recoded room fit count from to at) r = by (room == r)
  where
    by : (b : Bool)
        → length (passed h r) ≤ length (when b (λ codes. codes ++ from ∷ before to (awaited h r)) (passed h r))
    by true = omega (arith, length-append (passed h r) (from ∷ before to (awaited h r)))
    by false = omega arith
passed_grow h _ r = omega arith

-- the lock's place is before the number of codes
pub passed_under : (h : History) → Reached h → (r : ℕ) → is_room h r ≡ true → length (passed h r) < length (issued h r)
passed_under h ok r there =
    let n = ap (λ (zs : List ℕ). length zs) (ledger_holds h ok r there) in
    omega (arith, n, length-append (passed h r) (held h r ∷ awaited h r))

noted_by : (b : Bool) (fs : List FitRow) (present before passed passed' : ℕ) (taken : List Note) (note : Note)
    → FitsFor fs present before passed (length taken) → passed ≤ passed'
    → (b ≡ true → length taken + 1 - before ≤ 9999999)
    → FitsFor fs present before passed' (length (when b (and_last note) taken))
noted_by true fs present before passed passed' taken note s p few =
    let n = length-append taken (note ∷ []) in
    let l = few refl in
    noted_for fs present before passed passed' (length taken)
    (length (taken ++ note ∷ [])) s p (omega arith) (omega arith)
noted_by false fs present before passed passed' taken note s p few =
    passed_for fs present before passed passed' (length taken) s p

few_of : (h : History) → Reached h → (room fit count r : ℕ)
    → room ≡ r → notes_before h room + count ≡ length (notes h room) + 1 → count ≤ 9999999
    → length (notes h r) + 1 - notes_before h r ≤ 9999999
few_of h ok room fit count r same n l =
    subst (λ z. length (notes h z) + 1 - notes_before h z ≤ 9999999) same (let m = n in omega arith)

installed_by : (b : Bool) (h : History) (room r : ℕ) (fs : List FitRow)
    → fs ≡ when b (and_last (fit_row room 1 0 0)) (fits_at (fits h) r)
    → (b ≡ true → (fits_at (fits h) r ≡ []) × (notes_before h r ≡ 0) × (passed h r ≡ []) × (notes h r ≡ []))
    → (b ≡ false → FitsOf h r)
    → FitsFor fs (when b (λ _. 1) (present_fit h r)) (notes_before h r) (length (passed h r)) (length (notes h r))
installed_by true h room r fs e none s =
    let n = none refl in
    let only : fs ≡ fit_row room 1 0 0 ∷ [] = e ∙ ap (λ gs. gs ++ fit_row room 1 0 0 ∷ []) n.0 in
    subst (λ gs. FitsFor gs 1 (notes_before h r) (length (passed h r)) (length (notes h r))) (sym only)
    (subst (λ z. FitsFor (fit_row room 1 0 0 ∷ []) 1 z (length (passed h r)) (length (notes h r))) (sym n.1)
    (subst (λ (zs : List ℕ). FitsFor (fit_row room 1 0 0 ∷ []) 1 0 (length zs) (length (notes h r))) (sym n.2)
    (subst (λ (zs : List Note). FitsFor (fit_row room 1 0 0 ∷ []) 1 0 0 (length zs)) (sym n.3) (first_fits_for room))))
installed_by false h room r fs e none s = subst
    (λ gs. FitsFor gs (present_fit h r) (notes_before h r) (length (passed h r)) (length (notes h r))) (sym e) (s refl)

refitted_by : (b : Bool) (h : History) (room fit r : ℕ) (fs : List FitRow)
    → Reached h → (b ≡ true → room ≡ r) → is_room h r ≡ true → fit ≡ present_fit h room + 1 → present_fit h room < 99
    → fs ≡ when b (and_last (fit_row room fit (length (issued h room)) (length (notes h room)))) (fits_at (fits h) r)
    → FitsOf h r
    → FitsFor fs (when b (λ _. fit) (present_fit h r)) (when b (λ _. length (notes h room)) (notes_before h r))
    (length (when b (λ codes. codes ++ held h room ∷ awaited h room) (passed h r))) (length (notes h r))
refitted_by true h room fit r fs ok here there next few e s =
    let same = here refl in
    let n : fit ≡ present_fit h r + 1 = next ∙ ap (λ z. present_fit h z + 1) same in
    let l : present_fit h r < 99 = subst (λ z. present_fit h z < 99) same few in
    let all : passed h r ++ held h room ∷ awaited h room ≡ issued h r =
    ap (λ z. passed h r ++ held h z ∷ awaited h z) same ∙ ledger_holds h ok r there in
    let t = refit_for (fits_at (fits h) r) (present_fit h r) (notes_before h r) (length (passed h r))
    (length (notes h r)) room (length (issued h r)) s (passed_under h ok r there) l in
    let fs' : fs
    ≡ fits_at (fits h) r ++ fit_row room (present_fit h r + 1) (length (issued h r)) (length (notes h r)) ∷ [] =
    e ∙ ap (λ z. fits_at (fits h) r ++ fit_row room fit (length (issued h z)) (length (notes h z)) ∷ []) same
    ∙ ap (λ z. fits_at (fits h) r ++ fit_row room z (length (issued h r)) (length (notes h r)) ∷ []) n in
    subst (λ gs. FitsFor gs fit (length (notes h room)) (length (passed h r ++ held h room ∷ awaited h room))
    (length (notes h r))) (sym fs')
    (subst (λ z. FitsFor
    (fits_at (fits h) r ++ fit_row room (present_fit h r + 1) (length (issued h r)) (length (notes h r)) ∷ []) z
    (length (notes h room)) (length (passed h r ++ held h room ∷ awaited h room)) (length (notes h r))) (sym n)
    (subst (λ z. FitsFor (fits_at (fits h) r
    ++ fit_row room (present_fit h r + 1) (length (issued h r)) (length (notes h r)) ∷ []) (present_fit h r + 1)
    (length (notes h z)) (length (passed h r ++ held h room ∷ awaited h room)) (length (notes h r))) (sym same)
    (subst (λ (zs : List ℕ). FitsFor
    (fits_at (fits h) r ++ fit_row room (present_fit h r + 1) (length (issued h r)) (length (notes h r)) ∷ [])
    (present_fit h r + 1) (length (notes h r)) (length zs) (length (notes h r))) (sym all) t)))
refitted_by false h room fit r fs ok here there next few e s =
    subst (λ gs. FitsFor gs (present_fit h r) (notes_before h r) (length (passed h r)) (length (notes h r))) (sym e) s

-- The fits of each room that is there.
pub fits_of : (h : History) → Reached h → (r : ℕ) → is_room h r ≡ true → FitsOf h r
fits_of (start t) ok r there = fits_for_at_start t ok r there
fits_of (h ▷ Install room kind code) ok r there =
    installed_by (room == r) h room r _ (fits_installed h room code kind r ok)
    (λ t. let none = ap (is_room h) (sym (eq_from room r t)) ∙ (may_follow h (Install room kind code) ok).1 in
    (no_fits h ok.0 r none, nothing_before h ok.0 r none, nothing_passed h ok.0 r none, nothing_noted h ok.0 r none))
    (λ f. fits_of h ok.0 r (or_second (room == r) (is_room h r) f (sym (key_inserted (rooms h) room kind r) ∙ there)))
fits_of (h ▷ Refitted room fit code) ok r there =
    refitted_by (room == r) h room fit r _ ok.0 (eq_from room r) there (may_follow h (Refitted room fit code) ok).2
    (leb-false 99 (present_fit h room) (has_number h (Refitted room fit code) ok))
    (fits_refitted h room fit code r ok) (fits_of h ok.0 r there)
fits_of (h ▷ Entered room fit count number link at) ok r there =
    let event : Event = Entered room fit count number link at in
    let n = may_follow h event ok in
    noted_by (room == r) (fits_at (fits h) r) (present_fit h r) (notes_before h r) (length (passed h r))
    (length (passed (h ▷ event) r)) (notes h r)
    (note_from room fit count (act.Entered number link) at) (fits_of h ok.0 r there) (passed_grow h event r)
    (λ t. few_of h ok.0 room fit count r (eq_from room r t) (next_number h ok.0 room fit count n.0 n.5)
    (last_in_range h event ok).0.1)
fits_of (h ▷ Left room fit count number link at) ok r there =
    let event : Event = Left room fit count number link at in
    let n = may_follow h event ok in
    noted_by (room == r) (fits_at (fits h) r) (present_fit h r) (notes_before h r) (length (passed h r))
    (length (passed (h ▷ event) r)) (notes h r)
    (note_from room fit count (act.Left number link) at) (fits_of h ok.0 r there) (passed_grow h event r)
    (λ t. few_of h ok.0 room fit count r (eq_from room r t) (next_number h ok.0 room fit count n.0 n.5)
    (last_in_range h event ok).0.1)
fits_of (h ▷ Recoded room fit count from to at) ok r there =
    let event : Event = Recoded room fit count from to at in
    let n = may_follow h event ok in
    noted_by (room == r) (fits_at (fits h) r) (present_fit h r) (notes_before h r) (length (passed h r))
    (length (passed (h ▷ event) r)) (notes h r)
    (note_from room fit count (act.Recoded from to) at) (fits_of h ok.0 r there) (passed_grow h event r)
    (λ t. few_of h ok.0 room fit count r (eq_from room r t) (next_number h ok.0 room fit count n.0 n.4)
    (last_in_range h event ok).0.1)
fits_of (h ▷ _) ok r there = fits_of h ok.0 r there

-- no fit begins at a place that no code has yet
pub none_begins_at : (h : History) → Reached h → (r place : ℕ)
    → length (issued h r) ≤ place → begins_fit (rows_of h) r place ≡ false
none_begins_at h ok r place l =
    elim (either_way (is_room h r)) [
      | inl there ↦
          let s = fits_of h ok r there in
          let under = passed_under h ok r there in
          let low = s.last.4 in
          none_begins (fits_at (fits h) r) place s.places
          (λ f e. let same : s.last.0 ≡ f = (let w : Some s.last.0 ≡ Some f = sym s.last.1 ∙ e in cc) in
          let p : s.last.0.place ≡ f.place = ap (λ (x : FitRow). x.place) same in omega arith)
      | inr f ↦ ap (λ fs. list_any (λ (x : FitRow). x.place == place) fs) (no_fits h ok r f)
    ]

-- the present fit's row is found
pub present_found : (h : History) (ok : Reached h) (r : ℕ) (there : is_room h r ≡ true)
    → fit_at (rows_of h) r (present_fit h r) ≡ Some (fits_of h ok r there).last.0
present_found h ok r there =
    let s = fits_of h ok r there in
    let many = s.many in
    let least = s.least in
    let k : present_fit h r ≡ (length (fits_at (fits h) r) - 1) + 1 = omega arith in
    ap (fit_at (rows_of h) r) k ∙ fit_found h ok r (length (fits_at (fits h) r) - 1) s.numbers
    ∙ last_is_at (fits_at (fits h) r) ∙ s.last.1

-- and the next one isn't there
pub next_fit_free : (h : History) → Reached h → (r : ℕ)
    → is_room h r ≡ true → fit_at (rows_of h) r (present_fit h r + 1) ≡ None
next_fit_free h ok r there =
    let s = fits_of h ok r there in
    let many = s.many in
    fit_found h ok r (present_fit h r) s.numbers ∙ none_past (present_fit h r) (fits_at (fits h) r) (omega arith)

-- the place of the last fit
pub last_place : (h : History) (ok : Reached h) (r : ℕ) (there : is_room h r ≡ true)
    → last_fit_place (rows_of h) r ≡ (fits_of h ok r there).last.0.place
last_place h ok r there = ap (λ o. said_of o 0 (λ (f : FitRow). f.place)) (fits_of h ok r there).last.1

few_under : (a : ℕ) (ns : List ℕ) (n : ℕ) → rise_by_few (a ∷ ns ++ n ∷ []) ≡ true → n ≤ a + 9999999 * (length ns + 1)
few_under a [] n o = let l = le_from (n - a) 9999999 (and_true (nat_le (n - a) 9999999) true o).0 in omega arith
few_under a (b ∷ ns) n o =
    let p = and_true (nat_le (b - a) 9999999) (rise_by_few (b ∷ ns ++ n ∷ [])) o in
    let l = le_from (b - a) 9999999 p.0 in
    let m = few_under b ns n p.1 in
    omega arith

few_all : (fs : List FitRow) (n : ℕ) → first_is_first fs ≡ true → 1 ≤ length fs → length fs ≤ 99
    → rise_by_few (notes_before_each fs ++ n ∷ []) ≡ true → n ≤ 989999901
few_all [] n f least most o = absurd (omega arith)
few_all (a ∷ fs) n f least most o =
    let first = eq_from a.before 0 (and_true (a.place == 0) (a.before == 0) f).1 in
    let m = few_under a.before (map (λ (x : FitRow). x.before) fs) n o in
    let l = length_mapped (λ (x : FitRow). x.before) fs in
    omega arith

-- A room has at most 99 times 9,999,999 notes.
pub few_notes : (h : History) → Reached h → (r : ℕ) → is_room h r ≡ true → length (notes h r) ≤ 989999901
few_notes h ok r there =
    let s = fits_of h ok r there in few_all (fits_at (fits h) r) (length (notes h r)) s.first s.least s.most s.few
