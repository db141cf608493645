-- The notes of sound rows by their fits: a fit's notes are the ones after those that were taken before it.
use Rattle.std.proofs.Common.{ℕ, zero, suc, ◌≡◌, ◌≤◌, ◌<◌, ◌+◌, ◌-◌, Bool, true, false, cond, Option, Some, None, List}
use Rattle.std.proofs.Common.{[], ◌∷◌, filter, length, drop, ◌⊎◌, inl, inr, refl, ap, sym, ◌∙◌, subst, arith, ◌==◌}
use Rattle.std.proofs.Common.{◌&&◌, nat_le, nat_lt, is_some}
use Rattle.hotel_model.proofs.Names.{nat_tests, list_all, is_at, lookup, pair_cmp, FitRow, RoomRow, Note, Rows}
use Rattle.hotel_model.proofs.Names.{at_number, said_of, when, fit_at, fits_at, count_up, none_fall, notes_before_each}
use Rattle.hotel_model.proofs.Names.{notes_at, numbers_at, is_of_fit, note_at, note_numbered, of_fit, start, notes}
use Rattle.hotel_model.proofs.Names.{present_fit, notes_before, IsSound}
use Rattle.hotel_model.proofs.OfTables.Tests.{eq_from, le_from, lt_from, le_tested, lt_tested, not_lt, not_lt_from}
use Rattle.hotel_model.proofs.OfTables.Tests.{not_higher, not_lower, and_true, not_both, either_way}
use Rattle.hotel_model.proofs.{OfTables.RowTests.both, OfTables.Pairs.pair_is, OfTables.Numbered.apart_by}
use Rattle.hotel_model.proofs.OfTables.FitLists.{NotesFor, last_is_at}
use Rattle.hotel_model.proofs.OfTables.AtRoom.{first_in, none_in, some_left, there_at, keys_at}
use Rattle.hotel_model.proofs.OfTables.ByFit.{FitsRise, notes_under, notes_by_fit}
use Rattle.hotel_model.proofs.{Starts.StartRules.said_true, Starts.StartRules.said_at, Starts.StartCodes.room_there_is}
use Rattle.hotel_model.proofs.{Starts.StartNotes.numbers_count_at_start, Starts.StartNotes.nothing_noted_at_start}
use Rattle.hotel_model.proofs.{Starts.StartNotes.note_kept_at_start, Starts.StartRows.notes_counted}
use Rattle.hotel_model.proofs.{Starts.StartFits.fits_said, Starts.StartFits.fits_kept_at_start}
use Rattle.hotel_model.proofs.{Invariants.FitsKept.fit_found, Invariants.FitsKept.numbers_of_fits}

-- ---- the fits of a room: their numbers, and how many notes were taken before each

same_row : {a b : FitRow} → Some a ≡ Some b → a.before ≡ b.before
same_row {a} {b} e = ap (λ o. said_of o 0 (λ (x : FitRow). x.before)) e

rest_rises : (x : FitRow) (fs : List FitRow)
    → none_fall (notes_before_each (x ∷ fs)) ≡ true → none_fall (notes_before_each fs) ≡ true
rest_rises x [] o = refl
rest_rises x (y ∷ fs) o = (and_true (nat_le x.before y.before) (none_fall (notes_before_each (y ∷ fs))) o).1

rises_from : (x : FitRow) (fs : List FitRow) (j : ℕ) (b : FitRow)
    → none_fall (notes_before_each (x ∷ fs)) ≡ true → first_in (drop j (x ∷ fs)) ≡ Some b → x.before ≤ b.before
rises_from x fs zero b o e = let s = same_row e in omega arith
rises_from x [] (suc j) b o e = absurd (let w : ◌≡◌ {A = Option FitRow} None (Some b) = sym (none_in j) ∙ e in cc)
rises_from x (y ∷ fs) (suc j) b o e =
    let p = and_true (nat_le x.before y.before) (none_fall (notes_before_each (y ∷ fs))) o in
    let l = le_from x.before y.before p.0 in
    let m = rises_from y fs j b p.1 e in
    omega arith

-- a later fit has no fewer notes before it
rises : (fs : List FitRow) (i j : ℕ) (a b : FitRow) → none_fall (notes_before_each fs) ≡ true → i ≤ j
    → first_in (drop i fs) ≡ Some a → first_in (drop j fs) ≡ Some b → a.before ≤ b.before
rises [] i j a b o l e f = absurd (let w : ◌≡◌ {A = Option FitRow} None (Some a) = sym (none_in i) ∙ e in cc)
rises (x ∷ fs) zero j a b o l e f = let s = same_row e in let m = rises_from x fs j b o f in omega arith
rises (x ∷ fs) (suc i) zero a b o l e f = absurd (omega arith)
rises (x ∷ fs) (suc i) (suc j) a b o l e f = rises fs i j a b (rest_rises x fs o) (omega arith) e f

below_by : (b c : Bool) (x : FitRow) (found : Option FitRow)
    → c ≡ false → found ≡ None → cond (b && c) (Some x) found ≡ None
below_by true true x found c e = not_both true refl c
below_by true false x found c e = e
below_by false c' x found c e = e

-- no row of a number below the first
none_below : (es : List ((ℕ × ℕ) × FitRow)) (r n q : ℕ)
    → count_up n (keys_at es r) ≡ true → q < n → lookup (is_at (pair_cmp (r, q))) es ≡ None
none_below [] r n q up l = refl
none_below (e ∷ es) r n q up l = ap (λ b. cond b (Some e.1) (lookup (is_at (pair_cmp (r, q))) es)) (pair_is r q e.0)
    ∙ by (e.0.0 == r) up (none_below es r n q) (none_below es r (n + 1) q)
  where
    by : (b : Bool) → count_up n (when b (λ ns. e.0.1 ∷ ns) (keys_at es r)) ≡ true
        → (count_up n (keys_at es r) ≡ true → q < n → lookup (is_at (pair_cmp (r, q))) es ≡ None)
        → (count_up (n + 1) (keys_at es r) ≡ true → q < n + 1 → lookup (is_at (pair_cmp (r, q))) es ≡ None)
        → cond (b && (e.0.1 == q)) (Some e.1) (lookup (is_at (pair_cmp (r, q))) es) ≡ None
    by true u same next =
        let p = and_true (e.0.1 == n) (count_up (n + 1) (keys_at es r)) u in
        let here = eq_from e.0.1 n p.0 in
        let apart : (e.0.1 == q) ≡ false = not_lower e.0.1 q (omega arith) in
        below_by true (e.0.1 == q) e.1 (lookup (is_at (pair_cmp (r, q))) es) apart (next p.1 (omega arith))
    by false u same next = same u l

-- ---- the notes of a room by its fits

-- a fit that is found stands among the room's
index_of : (t : Rows) (s : IsSound t) (r : ℕ) (row : RoomRow) → at_number t.rooms r ≡ Some row → (g : ℕ) (f : FitRow)
    → fit_at t r g ≡ Some f → (i : ℕ) × (g ≡ i + 1) × (first_in (drop i (fits_at t.fits r)) ≡ Some f)
index_of t s r row there zero f e =
    let said = fits_said t s r row there in
    let none : fit_at t r 0 ≡ None =
    none_below t.fits r 1 0 (ap (λ ns. count_up 1 ns) (numbers_of_fits (start t) r t.fits (fits_kept_at_start t s))
    ∙ said.numbers) (omega arith) in
    absurd (let w : ◌≡◌ {A = Option FitRow} None (Some f) = sym none ∙ e in cc)
index_of t s r row there (suc i) f e =
    let said = fits_said t s r row there in
    let m : suc i ≡ i + 1 = omega arith in
    (i, m, sym (fit_found (start t) s r i said.numbers) ∙ ap (fit_at t r) (sym m) ∙ e)

-- what the rule says of a note
of_fit_parts : (t : Rows) (e : (ℕ × ℕ) × Note) → is_of_fit t e ≡ true
    → (1 ≤ e.1.count) × (f : FitRow) × (fit_at t e.0.0 e.1.fit ≡ Some f) × (e.0.1 ≡ f.before + e.1.count)
    × (said_of (fit_at t e.0.0 (e.1.fit + 1)) true (λ next. nat_le e.0.1 next.before) ≡ true)
of_fit_parts t e a =
    let p = and_true (nat_le 1 e.1.count && said_of (fit_at t e.0.0 e.1.fit) false (λ f. e.0.1 == f.before + e.1.count))
    (said_of (fit_at t e.0.0 (e.1.fit + 1)) true (λ next. nat_le e.0.1 next.before)) a in
    let q =
    and_true (nat_le 1 e.1.count) (said_of (fit_at t e.0.0 e.1.fit) false (λ f. e.0.1 == f.before + e.1.count)) p.0 in
    let f = said_true (fit_at t e.0.0 e.1.fit) (λ f. e.0.1 == f.before + e.1.count) q.1 in
    (le_from 1 e.1.count q.0, f.0, f.1, eq_from e.0.1 (f.0.before + e.1.count) f.2, p.1)

-- A note is of an earlier fit and was taken before this one, or of this or a later one and was taken after.
cut : (t : Rows) (s : IsSound t) (r : ℕ) (row : RoomRow) → at_number t.rooms r ≡ Some row → (e : (ℕ × ℕ) × Note)
    → e.0.0 ≡ r → is_of_fit t e ≡ true → (j : ℕ) (g : FitRow) → first_in (drop j (fits_at t.fits r)) ≡ Some g
    → ((e.1.fit < j + 1) × (e.0.1 ≤ g.before)) ⊎ ((j + 1 ≤ e.1.fit) × (g.before < e.0.1))
cut t s r row there e same a j g at =
    let said = fits_said t s r row there in
    let p = of_fit_parts t e a in
    let at_r : fit_at t r e.1.fit ≡ Some p.1 = ap (λ z. fit_at t z e.1.fit) (sym same) ∙ p.2 in
    let i = index_of t s r row there e.1.fit p.1 at_r in
    let fit : e.1.fit ≡ i.0 + 1 = i.1 in
    let number : e.0.1 ≡ p.1.before + e.1.count = p.3 in
    let least : 1 ≤ e.1.count = p.0 in
    elim (either_way (nat_lt i.0 j)) [
      | inl l ↦
          let lt : i.0 < j = lt_from i.0 j l in
          let many = some_left j (fits_at t.fits r) g at in
          let next = there_at (i.0 + 1) (fits_at t.fits r) (omega arith) in
          let found : fit_at t e.0.0 (e.1.fit + 1) ≡ Some next.0 = ap (λ z. fit_at t z (e.1.fit + 1)) same
          ∙ ap (λ z. fit_at t r (z + 1)) fit ∙ fit_found (start t) s r (i.0 + 1) said.numbers ∙ next.1 in
          let before : e.0.1 ≤ next.0.before = le_from e.0.1 next.0.before
          (said_at (fit_at t e.0.0 (e.1.fit + 1)) true (λ next. nat_le e.0.1 next.before) next.0 found p.4) in
          let rise : next.0.before ≤ g.before =
          rises (fits_at t.fits r) (i.0 + 1) j next.0 g said.rise (omega arith) next.1 at in
          inl (omega arith, omega arith)
      | inr l ↦
          let le : j ≤ i.0 = not_lt_from i.0 j l in
          let rise : g.before ≤ p.1.before = rises (fits_at t.fits r) j i.0 g p.1 said.rise le at i.2 in
          inr (omega arith, omega arith)
    ]

-- and it isn't after the last
within : (t : Rows) (s : IsSound t) (r : ℕ) (row : RoomRow) → at_number t.rooms r ≡ Some row → (e : (ℕ × ℕ) × Note)
    → e.0.0 ≡ r → is_of_fit t e ≡ true → e.1.fit ≤ row.fit
within t s r row there e same a =
    let said = fits_said t s r row there in
    let p = of_fit_parts t e a in
    let i = index_of t s r row there e.1.fit p.1 (ap (λ z. fit_at t z e.1.fit) (sym same) ∙ p.2) in
    let l = some_left i.0 (fits_at t.fits r) p.1 i.2 in
    let many = said.many in
    let fit = i.1 in
    omega arith

-- how many of the room's notes from a number on are of earlier fits
abbrev Counts : ℕ → ℕ → List Note → ℕ → Type 0
Counts fit before taken n = (n ≤ before → before ≤ n + length taken → n + notes_under fit taken ≡ before)
    × (before ≤ n → notes_under fit taken ≡ 0)

counts_by : (b : Bool) (fit before n : ℕ) (note : Note) (number : ℕ) (numbers : List ℕ) (taken : List Note)
    → count_up (n + 1) (when b (λ ns. number ∷ ns) numbers) ≡ true
    → (b ≡ true → ((note.fit < fit) × (number ≤ before)) ⊎ ((fit ≤ note.fit) × (before < number)))
    → (count_up (n + 1) numbers ≡ true → Counts fit before taken n)
    → (count_up (n + 1 + 1) numbers ≡ true → Counts fit before taken (n + 1))
    → Counts fit before (when b (λ ns. note ∷ ns) taken) n
counts_by false fit before n note number numbers taken up c same next = same up
counts_by true fit before n note number numbers taken up c same next =
    let p = and_true (number == n + 1) (count_up (n + 1 + 1) numbers) up in
    let here = eq_from number (n + 1) p.0 in
    let later = next p.1 in
    elim (c refl) [
      | inl q ↦
          let early = q.1 in
          let one : notes_under fit (note ∷ taken) ≡ suc (notes_under fit taken) =
          ap (λ b. when b (λ n. suc n) (notes_under fit taken)) (lt_tested note.fit fit q.0) in (
            λ l m. let rest = later.0 (omega arith) (omega arith) in omega arith,
            λ l. absurd (omega arith),
          )
      | inr q ↦
          let late = q.1 in
          let none : notes_under fit (note ∷ taken) ≡ notes_under fit taken =
          ap (λ b. when b (λ n. suc n) (notes_under fit taken)) (not_lt note.fit fit q.0) in (
            λ l m. let rest = later.1 (omega arith) in omega arith,
            λ l. let rest = later.1 (omega arith) in omega arith,
          )
    ]

counts : (t : Rows) (s : IsSound t) (r : ℕ) (row : RoomRow) → at_number t.rooms r ≡ Some row → (j : ℕ) (g : FitRow)
    → first_in (drop j (fits_at t.fits r)) ≡ Some g
    → (es : List ((ℕ × ℕ) × Note)) (n : ℕ) → list_all (is_of_fit t) es ≡ true
    → count_up (n + 1) (numbers_at es r) ≡ true → Counts (j + 1) g.before (notes_at es r) n
counts t s r row there j g at [] n a up = (λ l m. omega arith, λ l. refl)
counts t s r row there j g at (e ∷ es) n a up =
    let p = and_true (is_of_fit t e) (list_all (is_of_fit t) es) a in
    counts_by (e.0.0 == r) (j + 1) g.before n e.1 e.0.1 (numbers_at es r) (notes_at es r) up
    (λ q. cut t s r row there e (eq_from e.0.0 r q) p.0 j g at)
    (λ u. counts t s r row there j g at es n p.1 u) (λ u. counts t s r row there j g at es (n + 1) p.1 u)

-- As many notes of a room are of earlier fits as were taken before a fit.
pub under_is_before : (t : Rows) (s : IsSound t) (r : ℕ) (row : RoomRow) → at_number t.rooms r ≡ Some row → (j : ℕ)
    (g : FitRow) → first_in (drop j (fits_at t.fits r)) ≡ Some g → notes_under (j + 1) (notes_at t.notes r) ≡ g.before
under_is_before t s r row there j g at =
    let said = fits_said t s r row there in
    let many = some_left j (fits_at t.fits r) g at in
    let last = last_is_at (fits_at t.fits r) ∙ said.last.1 in
    let rise : g.before ≤ said.last.0.before =
    rises (fits_at t.fits r) j (length (fits_at t.fits r) - 1) g said.last.0 said.rise (omega arith) at last in
    let few = said.last.5 in
    let taken : length (notes_at t.notes r) ≡ row.notes = notes_counted t s r row there in
    let c = (counts t s r row there j g at t.notes 0 s.note_of_fit (numbers_count_at_start t s r)).0
    (omega arith) (omega arith) in
    omega arith

within_by : (b : Bool) (p : Note → Bool) (note : Note) (taken : List Note)
    → (b ≡ true → p note ≡ true) → list_all p taken ≡ true → list_all p (when b (λ ns. note ∷ ns) taken) ≡ true
within_by true p note taken f a = both _ _ (f refl) a
within_by false p note taken f a = a

all_within : (t : Rows) (s : IsSound t) (r : ℕ) (row : RoomRow)
    → at_number t.rooms r ≡ Some row → (es : List ((ℕ × ℕ) × Note))
    → list_all (is_of_fit t) es ≡ true → list_all (λ (note : Note). nat_le note.fit row.fit) (notes_at es r) ≡ true
all_within t s r row there [] a = refl
all_within t s r row there (e ∷ es) a =
    let p = and_true (is_of_fit t e) (list_all (is_of_fit t) es) a in
    within_by (e.0.0 == r) (λ (note : Note). nat_le note.fit row.fit) e.1 (notes_at es r)
    (λ q. le_tested e.1.fit row.fit (within t s r row there e (eq_from e.0.0 r q) p.0))
    (all_within t s r row there es p.1)

same_so : (a b : ℕ) → nat_le a b ≡ true → nat_lt a b ≡ false → (a == b) ≡ true
same_so a b l e = grind (arith, nat_tests)

-- notes are of earlier fits or of the present one
split : (present : ℕ) (taken : List Note) → list_all (λ (note : Note). nat_le note.fit present) taken ≡ true
    → notes_under present taken + length (filter (λ (note : Note). note.fit == present) taken) ≡ length taken
split present [] all = refl
split present (x ∷ taken) all =
    let p = and_true (nat_le x.fit present) (list_all (λ (note : Note). nat_le note.fit present) taken) all in
    let ih = split present taken p.1 in
    elim (either_way (nat_lt x.fit present)) [
      | inl t ↦
          let u = ap (λ b. when b (λ n. suc n) (notes_under present taken)) t in
          let f = ap (λ b. length (cond b (x ∷ filter (λ (note : Note). note.fit == present) taken)
          (filter (λ (note : Note). note.fit == present) taken)))
          (not_higher x.fit present (lt_from x.fit present t)) in
          omega (arith, u, f, ih)
      | inr t ↦
          let u = ap (λ b. when b (λ n. suc n) (notes_under present taken)) t in
          let f = ap (λ b. length (cond b (x ∷ filter (λ (note : Note). note.fit == present) taken)
          (filter (λ (note : Note). note.fit == present) taken))) (same_so x.fit present p.0 t) in
          omega (arith, u, f, ih)
    ]

notes_for_row : (t : Rows) (s : IsSound t) (r : ℕ) (row : RoomRow)
    → at_number t.rooms r ≡ Some row → NotesFor row.fit row.before (notes_at t.notes r)
notes_for_row t s r row there =
    let said = fits_said t s r row there in
    let many = said.many in
    let least = said.least in
    let last = last_is_at (fits_at t.fits r) ∙ said.last.1 in
    let u = under_is_before t s r row there (length (fits_at t.fits r) - 1) said.last.0 last in
    let k : (length (fits_at t.fits r) - 1) + 1 ≡ row.fit = omega arith in
    let v : notes_under row.fit (notes_at t.notes r) ≡ said.last.0.before =
    ap (λ z. notes_under z (notes_at t.notes r)) (sym k) ∙ u in
    let before : said.last.0.before ≡ row.before = said.last.3 in
    let all = all_within t s r row there t.notes s.note_of_fit in
    let parts = split row.fit (notes_at t.notes r) all in
    (all, omega (arith, v, before, parts))

-- The notes of the present fit of each room of sound rows.
pub notes_for_at_start : (t : Rows) → IsSound t → (r : ℕ)
    → NotesFor (present_fit (start t) r) (notes_before (start t) r) (notes (start t) r)
notes_for_at_start t s r = by (at_number t.rooms r) refl
  where
    by : (o : Option RoomRow)
        → at_number t.rooms r ≡ o → NotesFor (present_fit (start t) r) (notes_before (start t) r) (notes (start t) r)
    by (Some row) e =
        subst (λ o. NotesFor (said_of o 0 (λ (x : RoomRow). x.fit)) (said_of o 0 (λ (x : RoomRow). x.before))
        (notes_at t.notes r)) (sym e) (notes_for_row t s r row e)
    by None e =
        let none : notes (start t) r ≡ [] = nothing_noted_at_start t s r (room_there_is t r ∙ ap is_some e) in
        subst (λ o. NotesFor (said_of o 0 (λ (x : RoomRow). x.fit))
        (said_of o 0 (λ (x : RoomRow). x.before)) (notes_at t.notes r)) (sym e)
        (subst (λ (zs : List Note). NotesFor 0 0 zs) (sym none) (refl, refl))

-- ---- the note of a fit's count

-- each note of the room past a number is of this fit or a later one
abbrev NotBelow : Rows → ℕ → ℕ → ℕ → Type 0
NotBelow t r g n = (e : (ℕ × ℕ) × Note) → is_of_fit t e ≡ true → e.0.0 ≡ r → n < e.0.1 → g ≤ e.1.fit

not_below_next : (t : Rows) (s : IsSound t) (r : ℕ) (row : RoomRow) → at_number t.rooms r ≡ Some row
    → (e : (ℕ × ℕ) × Note) → is_of_fit t e ≡ true → e.0.0 ≡ r → NotBelow t r e.1.fit e.0.1
not_below_next t s r row there e a same x b same' l =
    let p = of_fit_parts t e a in
    let i = index_of t s r row there e.1.fit p.1 (ap (λ z. fit_at t z e.1.fit) (sym same) ∙ p.2) in
    let number : e.0.1 ≡ p.1.before + e.1.count = p.3 in
    let fit : e.1.fit ≡ i.0 + 1 = i.1 in
    elim (cut t s r row there x same' b i.0 p.1 i.2) [
      | inl q ↦ absurd (let early = q.1 in omega arith)
      | inr q ↦ (let late = q.0 in omega arith)
    ]

rise_by : (b : Bool) (g n : ℕ) (note : Note) (number : ℕ) (numbers : List ℕ) (taken : List Note)
    → count_up (n + 1) (when b (λ ns. number ∷ ns) numbers) ≡ true → (b ≡ true → n < number → g ≤ note.fit)
    → (count_up (n + 1) numbers ≡ true → FitsRise g taken)
    → (b ≡ true → number ≡ n + 1 → count_up (n + 1 + 1) numbers ≡ true → FitsRise note.fit taken)
    → FitsRise g (when b (λ ns. note ∷ ns) taken)
rise_by true g n note number numbers taken up low same next =
    let p = and_true (number == n + 1) (count_up (n + 1 + 1) numbers) up in
    let here = eq_from number (n + 1) p.0 in
    (low refl (omega arith), next refl here p.1)
rise_by false g n note number numbers taken up low same next = same up

rise_from : (t : Rows) (s : IsSound t) (r : ℕ) (row : RoomRow)
    → at_number t.rooms r ≡ Some row → (g n : ℕ) (es : List ((ℕ × ℕ) × Note)) → list_all (is_of_fit t) es ≡ true
    → count_up (n + 1) (numbers_at es r) ≡ true → NotBelow t r g n → FitsRise g (notes_at es r)
rise_from t s r row there g n [] a up low = tt
rise_from t s r row there g n (e ∷ es) a up low =
    let p = and_true (is_of_fit t e) (list_all (is_of_fit t) es) a in
    rise_by (e.0.0 == r) g n e.1 e.0.1 (numbers_at es r) (notes_at es r) up
    (λ q l. low e p.0 (eq_from e.0.0 r q) l)
    (λ u. rise_from t s r row there g n es p.1 u low)
    (λ q number u. rise_from t s r row there e.1.fit (n + 1) es p.1 u
    (λ x b same l. not_below_next t s r row there e p.0 (eq_from e.0.0 r q) x b same (let m = number in omega arith)))

-- The fits of a room's notes don't fall.
fits_rise : (t : Rows) (s : IsSound t) (r : ℕ) (row : RoomRow)
    → at_number t.rooms r ≡ Some row → FitsRise 0 (notes_at t.notes r)
fits_rise t s r row there =
    rise_from t s r row there 0 0 t.notes s.note_of_fit (numbers_count_at_start t s r) (λ e a same l. omega arith)

none_by : (b : Bool) (g : ℕ) (note : Note) (taken : List Note)
    → (b ≡ true → (note.fit == g) ≡ false) → filter (λ (n : Note). n.fit == g) taken ≡ []
    → filter (λ (n : Note). n.fit == g) (when b (λ ns. note ∷ ns) taken) ≡ []
none_by true g note taken f n =
    ap (λ b. cond b (note ∷ filter (λ (n : Note). n.fit == g) taken) (filter (λ (n : Note). n.fit == g) taken)) (f refl)
    ∙ n
none_by false g note taken f n = n

-- no note is of a fit that isn't there
none_of : (t : Rows) (r g : ℕ) → fit_at t r g ≡ None → (es : List ((ℕ × ℕ) × Note))
    → list_all (is_of_fit t) es ≡ true → filter (λ (n : Note). n.fit == g) (notes_at es r) ≡ []
none_of t r g none [] a = refl
none_of t r g none (e ∷ es) a =
    let p = and_true (is_of_fit t e) (list_all (is_of_fit t) es) a in
    none_by (e.0.0 == r) g e.1 (notes_at es r)
    (λ q. apart_by e.1.fit g (λ same. let f = of_fit_parts t e p.0 in
    absurd (let w : ◌≡◌ {A = Option FitRow} None (Some f.1) = sym none ∙ ap (fit_at t r) (sym same)
    ∙ ap (λ z. fit_at t z e.1.fit) (sym (eq_from e.0.0 r q)) ∙ f.2 in cc)))
    (none_of t r g none es p.1)

-- The note of a fit's count that is 1 or more is the one of that place among the fit's notes.
pub note_of_fit_found : (t : Rows) (s : IsSound t) (r : ℕ) (row : RoomRow) → at_number t.rooms r ≡ Some row → (g c : ℕ)
    → 1 ≤ c → note_at t r g c ≡ first_in (drop (c - 1) (filter (λ (n : Note). n.fit == g) (notes_at t.notes r)))
note_of_fit_found t s r row there g c l = by (fit_at t r g) refl
  where
    by : (o : Option FitRow) → fit_at t r g ≡ o
        → note_at t r g c ≡ first_in (drop (c - 1) (filter (λ (n : Note). n.fit == g) (notes_at t.notes r)))
    by (Some f) e =
        let i = index_of t s r row there g f e in
        let under : notes_under g (notes_at t.notes r) ≡ f.before =
        ap (λ z. notes_under z (notes_at t.notes r)) i.1 ∙ under_is_before t s r row there i.0 f i.2 in
        let number : f.before + c ≡ (notes_under g (notes_at t.notes r) + (c - 1)) + 1 = omega (arith, under) in
        ap (λ o. said_of o None (λ (f : FitRow). of_fit g (note_numbered t r (f.before + c)))) e
        ∙ ap (λ z. of_fit g (note_numbered t r z)) number
        ∙ ap (of_fit g) (note_kept_at_start t s r (notes_under g (notes_at t.notes r) + (c - 1)))
        ∙ notes_by_fit g (c - 1) (notes_at t.notes r) (fits_rise t s r row there)
    by None e =
        ap (λ o. said_of o None (λ (f : FitRow). of_fit g (note_numbered t r (f.before + c)))) e
        ∙ sym (ap (λ (ns : List Note). first_in (drop (c - 1) ns)) (none_of t r g e t.notes s.note_of_fit)
        ∙ none_in (c - 1))
