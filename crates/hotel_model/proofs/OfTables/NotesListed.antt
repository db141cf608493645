-- The table of notes has each room's notes in order, and their numbers are 1, 2 and so on.
use Rattle.std.proofs.Common.{ℕ, ◌≡◌, ◌≤◌, ◌<◌, ◌+◌, Bool, true, false, Option, Some, None, List, [], ◌∷◌, ◌++◌, length}
use Rattle.std.proofs.Common.{refl, ap, sym, ◌∙◌, subst, arith, length-append, ◌==◌, ◌||◌, not, nat_le, nat_lt}
use Rattle.hotel_model.proofs.Names.{list_all, nat_tests, Note, when, and_last, notes_at, numbers_at, Event, note_of}
use Rattle.hotel_model.proofs.Names.{History, start, ◌▷◌, notes, all_notes, with_note, and_note, Reached, count_up}
use Rattle.hotel_model.proofs.{OfTables.Tests.eq_from, OfTables.Tests.eq_self, OfTables.Tests.and_true}
use Rattle.hotel_model.proofs.{OfTables.RowTests.both}
use Rattle.hotel_model.proofs.OfTables.AtRoom.{is_before, picked_more, notes_are_picked, numbers_are_picked}
use Rattle.hotel_model.proofs.OfTables.AtRoom.{counts_next}
use Rattle.hotel_model.proofs.{SoundRows.RowsPass.notes_pass, SoundRows.SoundKeys.notes_in_order}
use Rattle.hotel_model.proofs.{Starts.StartNotes.numbers_count_at_start, Starts.StartNotes.numbers_within_at_start}
use Rattle.hotel_model.proofs.{Starts.StartNotes.as_many_numbers}

notes_grow : (o : Option Note) (r : ℕ) (taken : List Note) → length taken ≤ length (with_note r o taken)
notes_grow (Some note) r taken = by (note.room == r)
  where
    by : (b : Bool) → length taken ≤ length (when b (and_last note) taken)
    by true = omega (arith, length-append taken (note ∷ []))
    by false = omega arith
notes_grow None r taken = omega arith

le_more : (a b c : ℕ) → b ≤ c → nat_le a b ≡ true → nat_le a c ≡ true
le_more a b c h t = grind (arith, nat_tests)

-- how many notes a room has after one of it
pub one_more_note : (h : History) (event : Event) (note : Note)
    → note_of event ≡ Some note → length (notes (h ▷ event) note.room) ≡ length (notes h note.room) + 1
one_more_note h event note e =
    let now : notes (h ▷ event) note.room ≡ notes h note.room ++ note ∷ [] =
    ap (λ o. with_note note.room o (notes h note.room)) e
    ∙ ap (λ b. when b (and_last note) (notes h note.room)) (eq_self note.room) in
    let l = ap (λ (zs : List Note). length zs) now in
    omega (arith, l, length-append (notes h note.room) (note ∷ []))

one_noted : (h : History) (event : Event) (note : Note) → Reached (h ▷ event) → note_of event ≡ Some note
    → nat_le (length (notes h note.room) + 1) (length (notes (h ▷ event) note.room)) ≡ true
one_noted h event note ok e =
    let l = one_more_note h event note e in
    let le : length (notes h note.room) + 1 ≤ length (notes (h ▷ event) note.room) = omega arith in
    grind (arith, nat_tests)

-- whether a note's number isn't above how many its room has
abbrev pub is_within : History → (ℕ × ℕ) × Note → Bool
is_within h e = nat_le e.0.1 (length (notes h e.0.0))

pub within_goes_on : (h : History) (event : Event) (e : (ℕ × ℕ) × Note)
    → is_within h e ≡ true → is_within (h ▷ event) e ≡ true
within_goes_on h event e t =
    le_more e.0.1 (length (notes h e.0.0)) _ (notes_grow (note_of event) e.0.0 (notes h e.0.0)) t

-- no note has a number above how many its room has
pub numbers_within : (h : History) → Reached h → list_all (is_within h) (all_notes h) ≡ true
numbers_within h ok =
    notes_pass is_within (λ h event e ok t. within_goes_on h event e t) numbers_within_at_start one_noted h ok

within_before : (r c : ℕ) (e : (ℕ × ℕ) × Note) (n : ℕ → ℕ)
    → c ≡ n r + 1 → nat_le e.0.1 (n e.0.0) ≡ true → is_before r c e ≡ true
within_before r c e n next t = by (e.0.0 == r) refl
  where
    by : (b : Bool) → (e.0.0 == r) ≡ b → (not b || nat_lt e.0.1 c) ≡ true
    by true q =
        let same : n e.0.0 ≡ n r = ap n (eq_from e.0.0 r q) in let le : e.0.1 ≤ n e.0.0 = grind (arith, nat_tests) in
        let lt : e.0.1 < c = omega arith in grind (arith, nat_tests)
    by false q = refl

before_next : (r c : ℕ) (n : ℕ → ℕ) → c ≡ n r + 1 → (es : List ((ℕ × ℕ) × Note))
    → list_all (λ (e : (ℕ × ℕ) × Note). nat_le e.0.1 (n e.0.0)) es ≡ true → list_all (is_before r c) es ≡ true
before_next r c n next [] all = refl
before_next r c n next (e ∷ es) all =
    let p = and_true (nat_le e.0.1 (n e.0.0)) (list_all (λ (x : (ℕ × ℕ) × Note). nat_le x.0.1 (n x.0.0)) es) all in
    both _ _ (within_before r c e n next p.0) (before_next r c n next es p.1)

-- all notes come before the next number of their room
all_before : (h : History) → Reached h → (room : ℕ)
    → list_all (is_before room (length (notes h room) + 1)) (all_notes h) ≡ true
all_before h ok room =
    before_next room (length (notes h room) + 1) (λ z. length (notes h z)) refl (all_notes h) (numbers_within h ok)

listed_by : (h : History) (r : ℕ) → Reached h → (o : Option Note)
    → notes_at (all_notes h) r ≡ notes h r → notes_at (and_note h o (all_notes h)) r ≡ with_note r o (notes h r)
listed_by h r ok (Some note) ih =
    notes_are_picked (and_note h (Some note) (all_notes h)) r
    ∙ picked_more (λ (e : (ℕ × ℕ) × Note). e.1) (all_notes h) note.room (length (notes h note.room) + 1) note r
    (notes_in_order h ok) (all_before h ok note.room)
    ∙ ap (λ ns. when (note.room == r) (and_last note) ns) (sym (notes_are_picked (all_notes h) r) ∙ ih)
listed_by h r ok None ih = ih

-- The table has each room's notes in the order in which they were taken.
pub notes_are_listed : (h : History) → Reached h → (r : ℕ) → notes_at (all_notes h) r ≡ notes h r
notes_are_listed (start t) ok r = refl
notes_are_listed (h ▷ event) ok r = listed_by h r ok.0 (note_of event) (notes_are_listed h ok.0 r)

-- a room's numbers go up from 1, and are as many as its notes
abbrev pub AreNumbered : List ℕ → List Note → Type 0
AreNumbered numbers taken = (count_up 1 numbers ≡ true) × (length numbers ≡ length taken)

numbered_more : (b : Bool) (numbers : List ℕ) (taken : List Note) (note : Note) (next : ℕ)
    → (b ≡ true → next ≡ length taken + 1) → AreNumbered numbers taken
    → AreNumbered (when b (and_last next) numbers) (when b (and_last note) taken)
numbered_more true numbers taken note next n a =
    let m = n refl in
    let l = a.1 in
    let e : next ≡ 1 + length numbers = omega arith in (
      counts_next 1 numbers next a.0 e,
      omega (arith, length-append numbers (next ∷ []), length-append taken (note ∷ [])),
    )
numbered_more false numbers taken note next n a = a

numbered_by : (h : History) (r : ℕ) → Reached h → (o : Option Note)
    → AreNumbered (numbers_at (all_notes h) r) (notes h r)
    → AreNumbered (numbers_at (and_note h o (all_notes h)) r) (with_note r o (notes h r))
numbered_by h r ok (Some note) ih =
    let next : ℕ = length (notes h note.room) + 1 in
    let now : numbers_at (and_note h (Some note) (all_notes h)) r
    ≡ when (note.room == r) (and_last next) (numbers_at (all_notes h) r) =
    numbers_are_picked (and_note h (Some note) (all_notes h)) r
    ∙ picked_more (λ (e : (ℕ × ℕ) × Note). e.0.1) (all_notes h) note.room next note r
    (notes_in_order h ok) (all_before h ok note.room)
    ∙ ap (λ ns. when (note.room == r) (and_last next) ns) (sym (numbers_are_picked (all_notes h) r)) in
    subst (λ (ns : List ℕ). AreNumbered ns (with_note r (Some note) (notes h r))) (sym now)
    (numbered_more (note.room == r) (numbers_at (all_notes h) r) (notes h r) note next
    (λ t. ap (λ z. length (notes h z) + 1) (eq_from note.room r t)) ih)
numbered_by h r ok None ih = ih

-- The numbers of a room's notes are 1, 2 and so on.
pub notes_numbered : (h : History) → Reached h → (r : ℕ) → AreNumbered (numbers_at (all_notes h) r) (notes h r)
notes_numbered (start t) ok r = (numbers_count_at_start t ok r, as_many_numbers t.notes r)
notes_numbered (h ▷ event) ok r = numbered_by h r ok.0 (note_of event) (notes_numbered h ok.0 r)
