-- A note that a lock made changes what the desk has only when it is the next one.
use Rattle.std.proofs.Common.{ℕ, zero, suc, ◌≡◌, ◌≤◌, ◌<◌, ◌+◌, ◌-◌, Bool, true, false, cond, Option, Some, None, List}
use Rattle.std.proofs.Common.{[], filter}
use Rattle.std.proofs.Common.{◌∷◌, ◌++◌, length, drop, refl, ap, sym, ◌∙◌, subst, arith, append_assoc, ◌==◌, ◌&&◌}
use Rattle.std.proofs.Common.{inl, inr, nat_le, Contains, slice_index_or}
use Rattle.std.proofs.lemmas.List.{append-nil}
use Rattle.std.proofs.lemmas.List.Elements.{Contains-append_cases}
use Rattle.hotel_model.proofs.Names.{when, and_last, said_of, pair_cmp, Note, Act, Event, History, ◌▷◌, notes, notes_of}
use Rattle.hotel_model.proofs.Names.{all_notes, present_fit, is_room, rows_of, fit_at, note_at, note_numbered}
use Rattle.hotel_model.proofs.Names.{of_fit, is_of_fit, Reached, reported, standing, Standing, Next, checks, effect}
unfoldable use Rattle.hotel_model.specs.Answer.{answer_to}
use Rattle.hotel_model.specs.declared.command.Command.TheVariants as command
use Rattle.hotel_model.specs.declared.rows.FitRow.{FitRow}
use Rattle.keycard_rules.specs.declared.note.Act.TheVariants as act
use Rattle.hotel_model.proofs.OfTables.Tests.{eq_from, eq_self, and_true, le_from}
use Rattle.hotel_model.proofs.OfTables.RowTests.{found_passes_by}
use Rattle.hotel_model.proofs.OfTables.Pairs.{same_pair}
use Rattle.hotel_model.proofs.OfTables.AtRoom.{first_in, some_left}
use Rattle.hotel_model.proofs.OfTables.NotesKept.{note_kept}
use Rattle.hotel_model.proofs.Lifted.NotesFound.{note_found}
use Rattle.hotel_model.proofs.SoundRows.SoundNotes.{notes_all_of_fits}
use Rattle.hotel_model.proofs.Invariants.Following.{next_count, passed_all, needed, same_event}
use Rattle.hotel_model.proofs.Names.{needs, accepted, told, opens, is_card, has_link, inside, awaited, is_one_of}
use Rattle.hotel_model.specs.Cases.{holds}
use Rattle.hotel_model.specs.declared.reply.Reply.TheVariants as reply
use Rattle.hotel_model.specs.declared.reply.Refusal.TheVariants.{NoCard, CardDiffers, LockShut, NotInside}
use Rattle.hotel_model.specs.declared.reply.Refusal.TheVariants.{HeldDiffers, NotAwaited}
use Rattle.hotel_building.specs.Building.{Building, door, desk, event_by, event_of}
use Rattle.hotel_building.proofs.Taken.{note_needs}
use Rattle.hotel_building.proofs.Alike.{after_all}
use Rattle.hotel_building.proofs.Replays.{Replays}
use Rattle.hotel_building.proofs.Agrees.{made_more}
use Rattle.hotel_building.proofs.Whole.{RoomIs}

-- ---- notes that were taken

first_at : (n : Note) (xs : List Note) (k : ℕ) → k < length xs → slice_index_or xs k n ≡ n
    → first_in (drop k xs) ≡ Some n
first_at n [] k l e = absurd (omega arith)
first_at n (x ∷ xs) zero l e = ap (λ z. Some z) e
first_at n (x ∷ xs) (suc k) l e = first_at n xs k (omega arith) e

said_true : (o : Option FitRow) (t : FitRow → Bool) → said_of o false t ≡ true
    → (f : FitRow) × (o ≡ Some f) × (t f ≡ true)
said_true (Some f) t e = (f, refl, e)
said_true None t e = cc

-- the count of a note that was taken is at most the number of those of its lock
counted_in : (h : History) → Reached h → (r : ℕ) → is_room h r ≡ true → (n : Note) → Contains (notes h r) n
    → n.count ≤ length (notes_of h r n.fit)
counted_in h ok r there n c =
    let k = c.0 in
    let found : note_numbered (rows_of h) r (k + 1) ≡ Some n = note_kept h ok r k ∙ first_at n (notes h r) k c.1 c.2 in
    let t = found_passes_by pair_cmp same_pair (is_of_fit (rows_of h)) (all_notes h) (r, k + 1) n
    (notes_all_of_fits h ok) found in
    let p = and_true (nat_le 1 n.count && said_of (fit_at (rows_of h) r n.fit) false (λ (f : FitRow).
    k + 1 == f.before + n.count)) _ t in
    let q = and_true (nat_le 1 n.count) (said_of (fit_at (rows_of h) r n.fit) false (λ (f : FitRow).
    k + 1 == f.before + n.count)) p.0 in
    let f = said_true (fit_at (rows_of h) r n.fit) (λ (f : FitRow). k + 1 == f.before + n.count) q.1 in
    let least = le_from 1 n.count q.0 in
    let number : k + 1 ≡ f.0.before + n.count = eq_from (k + 1) (f.0.before + n.count) f.2 in
    let at : note_at (rows_of h) r n.fit n.count ≡ Some n =
    ap (λ o. said_of o None (λ (x : FitRow). of_fit n.fit (note_numbered (rows_of h) r (x.before + n.count)))) f.1
    ∙ ap (of_fit n.fit) (ap (note_numbered (rows_of h) r) (sym number) ∙ found)
    ∙ ap (λ b. cond b (Some n) None) (eq_self n.fit) in
    let few = some_left (n.count - 1) (notes_of h r n.fit) n (sym (note_found h ok r n.fit n.count there least) ∙ at) in
    omega arith

-- ---- notes that are unread

one_more : (h : History) (r : ℕ) (x : Note) (a : Act) → x.room ≡ r
    → notes (h ▷ event_by x a) r ≡ notes h r ++ record x { act = a } ∷ []
one_more h r x (act.Entered number link) e =
    ap (λ b. when b (and_last (record x { act = act.Entered number link })) (notes h r))
    (ap (λ z. z == r) e ∙ eq_self r)
one_more h r x (act.Left number link) e =
    ap (λ b. when b (and_last (record x { act = act.Left number link })) (notes h r)) (ap (λ z. z == r) e ∙ eq_self r)
one_more h r x (act.Recoded from to) e =
    ap (λ b. when b (and_last (record x { act = act.Recoded from to })) (notes h r)) (ap (λ z. z == r) e ∙ eq_self r)

-- after notes of a room it has them
all_noted : (r : ℕ) (h : History) (xs : List Note) → Replays r h xs → notes (after_all h xs) r ≡ notes h r ++ xs
all_noted r h [] p = sym (append-nil (notes h r))
all_noted r h (x ∷ xs) p =
    all_noted r (h ▷ event_of x) xs p.3 ∙ ap (λ ns. ns ++ xs) (one_more h r x x.act p.0)
    ∙ append_assoc (notes h r) (x ∷ []) xs

-- a note that may follow is of the present lock, with a count after all that it has; where it is the next one, it is
-- the first
first_by_count : (r : ℕ) (h : History) (xs : List Note) → Replays r h xs → (n : Note) → Contains xs n
    → (length (notes_of h r (present_fit h r)) + 1 ≤ n.count)
    × (n.count ≡ length (notes_of h r (present_fit h r)) + 1 → (later : List Note) × (xs ≡ n ∷ later))
first_by_count r h [] p n c = absurd (let l = c.1 in omega arith)
first_by_count r h (x ∷ xs) p n (zero, lt, e) =
    let same : x ≡ n = e in
    let needs = note_needs h x x.act p.1 in
    let count : x.count ≡ length (notes_of h r (present_fit h r)) + 1 =
    needs.0 ∙ (λ i. length (notes_of h (p.0 i) ((needs.2 ∙ ap (present_fit h) p.0) i)) + 1) in
    let first : n.count ≡ x.count = ap (λ (z : Note). z.count) (sym same) in
    (omega arith, λ _. (xs, ap (λ z. z ∷ xs) same))
first_by_count r h (x ∷ xs) p n (suc k, lt, e) =
    let later = first_by_count r (h ▷ event_of x) xs p.3 n (k, omega arith, e) in
    let needs = note_needs h x x.act p.1 in
    let more = made_more h r x x.act p.0 (needs.2 ∙ ap (present_fit h) p.0) in
    let after = later.0 in
    (omega arith, λ is. absurd (let m = is in omega arith))

-- ---- a note that a lock made

only_next : (h : History) (note : Note) (s : Standing) (e : Event) → standing h note ≡ s
    → (reported h note s).happens ≡ Some e → standing h note ≡ Next
only_next h note Next e f q = f
only_next h note _ e f q = cc

-- a note that is taken is the next one
taken_is_next : (h : History) (ahead : List ℕ) (note : Note) (e : Event)
    → (answer_to h ahead (command.Reported note)).happens ≡ Some e
    → (is_room h note.room ≡ true) × (note.fit ≡ present_fit h note.room)
    × (note.count ≡ length (notes_of h note.room note.fit) + 1)
unfolding answer_to
taken_is_next h ahead note e q =
    let p = passed_all (checks h (command.Reported note)) (effect h ahead (command.Reported note)) e q in
    let next = only_next h note (standing h note) e refl p.1 in
    let taken = notes_of h note.room note.fit in
    let n = next_count (note.fit == present_fit h note.room) (length taken) note (drop (note.count - 1) taken) next in
    (needed (is_room h note.room) _ p.0.1.0, eq_from note.fit (present_fit h note.room) n.0, n.1)

same_fits : (h : History) (xs : List Note) (r : ℕ) → present_fit (after_all h xs) r ≡ present_fit h r
same_fits h [] r = refl
same_fits h (x ∷ xs) r = same_fits (h ▷ event_of x) xs r ∙ by x.act
  where
    by : (a : Act) → present_fit (h ▷ event_by x a) r ≡ present_fit h r
    by (act.Entered number link) = refl
    by (act.Left number link) = refl
    by (act.Recoded from to) = refl

-- a note of a fit is among those of the fit
kept_in : (f : ℕ) (n : Note) (ns : List Note) → n.fit ≡ f → Contains ns n
    → Contains (filter (λ (y : Note). y.fit == f) ns) n
kept_in f n [] e c = absurd (let l = c.1 in omega arith)
kept_in f n (y ∷ ns) e (zero, l, q) =
    let same : y ≡ n = q in
    let t : (y.fit == f) ≡ true = ap (λ z. z == f) (ap (λ (z : Note). z.fit) same ∙ e) ∙ eq_self f in
    subst (λ bb. Contains (cond bb (y ∷ filter (λ (y : Note). y.fit == f) ns) (filter (λ (y : Note). y.fit == f) ns)) n)
    (sym t) (0, omega arith, same)
kept_in f n (y ∷ ns) e (suc k, l, q) = by (y.fit == f) (kept_in f n ns e (k, omega arith, q))
  where
    by : (bb : Bool) → Contains (filter (λ (y : Note). y.fit == f) ns) n
        → Contains (cond bb (y ∷ filter (λ (y : Note). y.fit == f) ns) (filter (λ (y : Note). y.fit == f) ns)) n
    by true c = (suc c.0, (let l = c.1 in omega arith), c.2)
    by false c = c

was_in : (f : ℕ) (n : Note) (ns : List Note) → Contains (filter (λ (y : Note). y.fit == f) ns) n → Contains ns n
was_in f n [] c = c
was_in f n (y ∷ ns) c = by (y.fit == f) c (λ d. was_in f n ns d)
  where
    by : (bb : Bool)
        → Contains (cond bb (y ∷ filter (λ (y : Note). y.fit == f) ns) (filter (λ (y : Note). y.fit == f) ns)) n
        → (Contains (filter (λ (y : Note). y.fit == f) ns) n → Contains ns n) → Contains (y ∷ ns) n
    by true (zero, l, q) g = (0, omega arith, q)
    by true (suc k, l, q) g = let d = g (k, omega arith, q) in (suc d.0, (let m = d.1 in omega arith), d.2)
    by false d g = let d' = g d in (suc d'.0, (let m = d'.1 in omega arith), d'.2)

-- its event
event_told : (h : History) (note : Note) (a : Act) (e : Event) → (told h note a).happens ≡ Some e → event_by note a ≡ e
event_told h note (act.Entered number link) e q =
    same_event (passed_all (needs (is_card h number) NoCard ∷ needs (has_link h number link) CardDiffers
    ∷ needs (opens h note.room link) LockShut ∷ [])
    (accepted reply.Taken (event_by note (act.Entered number link))) e q).1
event_told h note (act.Left number link) e q =
    same_event (passed_all (needs (is_card h number) NoCard ∷ needs (has_link h number link) CardDiffers
    ∷ needs (is_one_of number (inside h note.room)) NotInside ∷ [])
    (accepted reply.Taken (event_by note (act.Left number link))) e q).1
event_told h note (act.Recoded from to) e q =
    same_event (passed_all (needs (holds h note.room from) HeldDiffers
    ∷ needs (is_one_of to (awaited h note.room)) NotAwaited ∷ [])
    (accepted reply.Taken (event_by note (act.Recoded from to))) e q).1

event_reported : (h : History) (note : Note) (s : Standing) (e : Event) → (reported h note s).happens ≡ Some e
    → event_of note ≡ e
event_reported h note Next e q = event_told h note note.act e q
event_reported h note _ e q = cc

pub event_taken : (h : History) (ahead : List ℕ) (note : Note) (e : Event)
    → (answer_to h ahead (command.Reported note)).happens ≡ Some e → event_of note ≡ e
unfolding answer_to
event_taken h ahead note e q =
    let p = passed_all (checks h (command.Reported note)) (effect h ahead (command.Reported note)) e q in
    event_reported h note (standing h note) e p.1

-- If the desk takes a note that a lock made, it is the next of its door.
pub true_is_next : (b : Building) (t : History) (note : Note) → RoomIs b t note.room → (ahead : List ℕ) (e : Event)
    → Contains (notes t note.room) note → (answer_to (desk b) ahead (command.Reported note)).happens ≡ Some e
    → (later : List Note) × ((door b note.room).unread ≡ note ∷ later)
true_is_next b t note w ahead e c q =
    let r = note.room in
    let xs = (door b r).unread in
    let i = w.here in
    let n = taken_is_next (desk b) ahead note e q in
    let here : note.fit ≡ present_fit t r = n.1 ∙ sym (same_fits (desk b) xs r) ∙ i.alike.same_lock in
    let kept = subst (λ (ns : List Note). Contains ns note) (sym i.alike.same_notes)
    (subst (λ f. Contains (notes_of t r f) note) here
    (kept_in note.fit note (notes t r) refl c)) in
    let found = subst (λ (ns : List Note). Contains ns note) (all_noted r (desk b) xs i.replays)
    (was_in _ note (notes (after_all (desk b) xs) r) kept) in
    elim (Contains-append_cases (notes (desk b) r) xs note found) [
      | inl k ↦
          let few = counted_in (desk b) w.desk_ok r n.0 note k in
          let count = n.2 in absurd (omega arith)
      | inr k ↦ (first_by_count r (desk b) xs i.replays note k).1
          (n.2 ∙ ap (λ f. length (notes_of (desk b) r f) + 1) n.1)
    ]
