-- The notes of a room's present fit: those after the ones that were taken before it.
use Rattle.std.proofs.Common.{ℕ, ◌≡◌, ◌+◌, Bool, true, false, cond, List, [], ◌∷◌, ◌++◌, filter, length, refl, ap, sym}
use Rattle.std.proofs.Common.{◌∙◌, subst, arith, length-append, ◌==◌, nat_le}
use Rattle.hotel_model.proofs.Names.{nat_tests, list_all, Note, when, and_last, present_fit, notes_before, notes}
use Rattle.hotel_model.proofs.Names.{notes_of, Install, Refitted, Entered, Left, Recoded, History, start, ◌▷◌, is_room}
use Rattle.hotel_model.proofs.Names.{Reached, note_from}
use Rattle.keycard_rules.specs.declared.note.Act.TheVariants as act
use Rattle.hotel_model.proofs.{OfTables.Tests.eq_from, OfTables.Tests.eq_self, OfTables.Tests.and_true}
use Rattle.hotel_model.proofs.{OfTables.Tests.le_self, OfTables.RowTests.both, OfTables.RowTests.all_weaker}
use Rattle.hotel_model.proofs.{OfTables.Grown.may_follow, Invariants.NoRooms.nothing_noted}
use Rattle.hotel_model.proofs.{Invariants.HomeRooms.not_added, Invariants.HomeRooms.apart_rooms}
use Rattle.hotel_model.proofs.{Starts.StartNotesOfFits.notes_for_at_start, Starts.StartFits.nothing_before_at_start}
use Rattle.hotel_model.proofs.{OfTables.FitLists.NotesFor}

all_snoc : (t : Note → Bool) (taken : List Note) (note : Note)
    → list_all t taken ≡ true → t note ≡ true → list_all t (taken ++ note ∷ []) ≡ true
all_snoc t [] note all one = both _ _ one refl
all_snoc t (x ∷ taken) note all one =
    let p = and_true (t x) (list_all t taken) all in both _ _ p.0 (all_snoc t taken note p.1 one)

kept_snoc : (t : Note → Bool) (taken : List Note) (note : Note)
    → t note ≡ true → filter t (taken ++ note ∷ []) ≡ filter t taken ++ note ∷ []
kept_snoc t [] note one = ap (λ b. cond b (note ∷ []) []) one
kept_snoc t (x ∷ taken) note one = by (t x) (kept_snoc t taken note one)
  where
    by : (b : Bool) → filter t (taken ++ note ∷ []) ≡ filter t taken ++ note ∷ []
        → cond b (x ∷ filter t (taken ++ note ∷ [])) (filter t (taken ++ note ∷ []))
        ≡ cond b (x ∷ filter t taken) (filter t taken) ++ note ∷ []
    by true ih = ap (λ zs. x ∷ zs) ih
    by false ih = ih

-- with a note of the present fit
pub noted_notes : (present before : ℕ) (taken : List Note) (note : Note)
    → NotesFor present before taken → note.fit ≡ present → NotesFor present before (taken ++ note ∷ [])
noted_notes present before taken note n e =
    let this : (note.fit == present) ≡ true = ap (λ z. z == present) e ∙ eq_self present in
    let kept = ap (λ (zs : List Note). length zs) (kept_snoc (λ (x : Note). x.fit == present) taken note this) in
    let was = n.1 in (
      all_snoc (λ (x : Note). nat_le x.fit present) taken note n.0 (ap (λ z. nat_le z present) e ∙ le_self present),
      omega (
        arith,
        kept,
        was,
        length-append taken (note ∷ []),
        length-append (filter (λ (x : Note). x.fit == present) taken) (note ∷ []),
      ),
    )

-- No note is of a lock after the present one.
pub none_later : (present : ℕ) (taken : List Note) → list_all (λ (note : Note). nat_le note.fit present) taken ≡ true
    → filter (λ (note : Note). note.fit == present + 1) taken ≡ []
none_later present [] all = refl
none_later present (x ∷ taken) all =
    let p = and_true (nat_le x.fit present) (list_all (λ (note : Note). nat_le note.fit present) taken) all in
    let low = p.0 in
    ap (λ b. cond b (x ∷ filter (λ (note : Note). note.fit == present + 1) taken)
    (filter (λ (note : Note). note.fit == present + 1) taken)) (other x.fit present low) ∙ none_later present taken p.1
  where
    other : (a b : ℕ) → nat_le a b ≡ true → (a == b + 1) ≡ false
    other a b l = grind (arith, nat_tests)

le_next : (a b : ℕ) → nat_le a b ≡ true → nat_le a (b + 1) ≡ true
le_next a b l = grind (arith, nat_tests)

-- with the next fit
pub refitted_notes : (present before : ℕ) (taken : List Note)
    → NotesFor present before taken → NotesFor (present + 1) (length taken) taken
refitted_notes present before taken n =
    let none = ap (λ (zs : List Note). length zs) (none_later present taken n.0) in (
      all_weaker (λ (note : Note). nat_le note.fit present) (λ (note : Note). nat_le note.fit (present + 1))
          (λ note. le_next note.fit present) taken n.0,
      omega (arith, none),
    )

-- where nothing was noted
pub no_notes : (present : ℕ) → NotesFor present 0 []
no_notes present = (refl, refl)

-- Where there is no room nothing was taken before its present fit.
pub nothing_before : (h : History) → Reached h → (r : ℕ) → is_room h r ≡ false → notes_before h r ≡ 0
nothing_before (start t) ok r e = nothing_before_at_start t r e
nothing_before (h ▷ Install room kind code) ok r e = nothing_before h ok.0 r (not_added h room r code kind e).1
nothing_before (h ▷ Refitted room fit code) ok r e =
    ap (λ b. when b (λ _. length (notes h room)) (notes_before h r))
    (apart_rooms h room r (may_follow h (Refitted room fit code) ok).0 e) ∙ nothing_before h ok.0 r e
nothing_before (h ▷ _) ok r e = nothing_before h ok.0 r e

noted_by : (b : Bool) (present before : ℕ) (taken : List Note) (note : Note) → NotesFor present before taken
    → (b ≡ true → note.fit ≡ present) → NotesFor present before (when b (and_last note) taken)
noted_by true present before taken note n e = noted_notes present before taken note n (e refl)
noted_by false present before taken note n e = n

installed_by : (b : Bool) (present before : ℕ) (taken : List Note) → NotesFor present before taken
    → (b ≡ true → (before ≡ 0) × (taken ≡ [])) → NotesFor (when b (λ _. 1) present) before taken
installed_by true present before taken n none =
    let p = none refl in
    subst (λ z. NotesFor 1 z taken) (sym p.0) (subst (λ (zs : List Note). NotesFor 1 0 zs) (sym p.1) (no_notes 1))
installed_by false present before taken n none = n

refitted_by : (b : Bool) (h : History) (room fit r : ℕ)
    → (b ≡ true → room ≡ r) → fit ≡ present_fit h room + 1 → NotesFor (present_fit h r) (notes_before h r) (notes h r)
    → NotesFor (when b (λ _. fit) (present_fit h r)) (when b (λ _. length (notes h room))
    (notes_before h r)) (notes h r)
refitted_by true h room fit r here next n =
    let same = here refl in
    subst (λ z. NotesFor z (length (notes h room)) (notes h r)) (sym (next ∙ ap (λ z. present_fit h z + 1) same))
    (subst (λ z. NotesFor (present_fit h r + 1) (length (notes h z)) (notes h r)) (sym same)
    (refitted_notes (present_fit h r) (notes_before h r) (notes h r) n))
refitted_by false h room fit r here next n = n

-- The notes of the present fit of each room.
pub notes_for : (h : History) → Reached h → (r : ℕ) → NotesFor (present_fit h r) (notes_before h r) (notes h r)
notes_for (start t) ok r = notes_for_at_start t ok r
notes_for (h ▷ Install room kind code) ok r =
    installed_by (room == r) (present_fit h r) (notes_before h r) (notes h r) (notes_for h ok.0 r)
    (λ t. let none = ap (is_room h) (sym (eq_from room r t)) ∙ (may_follow h (Install room kind code) ok).1 in
    (nothing_before h ok.0 r none, nothing_noted h ok.0 r none))
notes_for (h ▷ Refitted room fit code) ok r = refitted_by (room == r) h room fit r (eq_from room r)
    (may_follow h (Refitted room fit code) ok).2 (notes_for h ok.0 r)
notes_for (h ▷ Entered room fit count number link at) ok r =
    noted_by (room == r) (present_fit h r) (notes_before h r) (notes h r)
    (note_from room fit count (act.Entered number link) at)
    (notes_for h ok.0 r)
    (λ t. (may_follow h (Entered room fit count number link at) ok).5 ∙ ap (present_fit h) (eq_from room r t))
notes_for (h ▷ Left room fit count number link at) ok r =
    noted_by (room == r) (present_fit h r) (notes_before h r) (notes h r)
    (note_from room fit count (act.Left number link) at)
    (notes_for h ok.0 r)
    (λ t. (may_follow h (Left room fit count number link at) ok).5 ∙ ap (present_fit h) (eq_from room r t))
notes_for (h ▷ Recoded room fit count from to at) ok r =
    noted_by (room == r) (present_fit h r) (notes_before h r) (notes h r)
    (note_from room fit count (act.Recoded from to) at)
    (notes_for h ok.0 r)
    (λ t. (may_follow h (Recoded room fit count from to at) ok).4 ∙ ap (present_fit h) (eq_from room r t))
notes_for (h ▷ _) ok r = notes_for h ok.0 r

-- The number of the next note of a room, by its count.
pub next_number : (h : History) → Reached h → (room fit count : ℕ) → count ≡ length (notes_of h room fit) + 1
    → fit ≡ present_fit h room → notes_before h room + count ≡ length (notes h room) + 1
next_number h ok room fit count n e =
    let m : count ≡ length (notes_of h room (present_fit h room)) + 1 =
    n ∙ ap (λ z. length (notes_of h room z) + 1) e in
    let was = (notes_for h ok room).1 in
    omega arith
