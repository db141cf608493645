-- Rows of rooms and notes, joined with the fits of their rooms: what is found there, and what changes.
use Rattle.std.proofs.Common.{ℕ, ◌≡◌, ◌≤◌, ◌<◌, Bool, true, false, cond, Option, Some, None, List, [], ◌∷◌, ◌++◌}
use Rattle.std.proofs.Common.{map, filter, refl, ap, sym, ◌∙◌, subst, arith, ◌==◌, ◌||◌, not, nat_le, nat_lt, nat_cmp}
use Rattle.std.proofs.Common.{option_map, is_eq, Ordering, Less, Equal, Greater}
use Rattle.hotel_books.proofs.Names.{match_ordering, insert_entry, is_at, lookup, list_all, keys_of, nat_tests}
use Rattle.hotel_books.proofs.Names.{exact_unsigned, Note, said_of, when, and_last, pair_cmp, at_number, fits_at}
use Rattle.hotel_books.proofs.Names.{last_fit}
use Rattle.hotel_model.specs.declared.rows.RoomRow.{RoomRow}
use Rattle.hotel_model.specs.declared.rows.FitRow.{FitRow}
use Rattle.hotel_model.specs.Refinement.Change.{room_changed}
use Rattle.hotel_model.proofs.OfTables.Tests.{eq_from, eq_self, and_true}
use Rattle.hotel_model.proofs.OfTables.KeysInOrder.{AllAfter, InOrder}
use Rattle.hotel_model.proofs.OfTables.Pairs.{pair_exact, pair_is}
use Rattle.hotel_books.proofs.OfTables.MapEntries.{at_is}
use Rattle.hotel_model.proofs.OfTables.AtRoom.{is_before, picked_more, fits_are_picked}
use Rattle.hotel_model.proofs.OfTables.FitLists.{last_more}
use Rattle.hotel_rows.specs.Joined.{with_last, with_fit, fit_of_number, with_count, under_fit, FitEntries}
pub mod Numbers

-- ---- keys

pub keys_with_fit : (fits : FitEntries) (es : List (ℕ × RoomRow)) → keys_of (map (with_fit fits) es) ≡ keys_of es
keys_with_fit fits [] = refl
keys_with_fit fits (e ∷ es) = ap (λ ks. e.0 ∷ ks) (keys_with_fit fits es)

pub keys_under_fit : (fits : FitEntries) (es : List ((ℕ × ℕ) × Note)) → keys_of (map (under_fit fits) es) ≡ keys_of es
keys_under_fit fits [] = refl
keys_under_fit fits (e ∷ es) = ap (λ ks. e.0 ∷ ks) (keys_under_fit fits es)

-- ---- look-ups

pub room_joined : (fits : FitEntries) (es : List (ℕ × RoomRow)) (q : ℕ)
    → at_number (map (with_fit fits) es) q ≡ option_map (with_last (last_fit (fits_at fits q))) (at_number es q)
room_joined fits [] q = refl
room_joined fits (e ∷ es) q = by (is_at (nat_cmp q) e.0) (λ t. eq_from e.0 q (sym (at_is q e.0) ∙ t))
    (room_joined fits es q)
  where
    by : (b : Bool) → (b ≡ true → e.0 ≡ q) → at_number (map (with_fit fits) es) q
        ≡ option_map (with_last (last_fit (fits_at fits q))) (at_number es q)
        → cond b (Some (with_fit fits e).1) (at_number (map (with_fit fits) es) q)
        ≡ option_map (with_last (last_fit (fits_at fits q))) (cond b (Some e.1) (at_number es q))
    by true same ih = ap (λ k. Some (with_last (last_fit (fits_at fits k)) e.1)) (same refl)
    by false same ih = ih

-- a key's two numbers
pair_from : (q k : ℕ × ℕ) → is_at (pair_cmp q) k ≡ true → (k.0 ≡ q.0) × (k.1 ≡ q.1)
pair_from q k t =
    let p = and_true (k.0 == q.0) (k.1 == q.1) (sym (pair_is q.0 q.1 k) ∙ t) in
    (eq_from k.0 q.0 p.0, eq_from k.1 q.1 p.1)

-- a note joined at a key
abbrev pub joined_at : FitEntries → ℕ → ℕ → Note → Note
joined_at fits room n note = with_count (fit_of_number (fits_at fits room) n) n note

pub note_joined : (fits : FitEntries) (es : List ((ℕ × ℕ) × Note)) (q : ℕ × ℕ)
    → lookup (is_at (pair_cmp q)) (map (under_fit fits) es)
    ≡ option_map (joined_at fits q.0 q.1) (lookup (is_at (pair_cmp q)) es)
note_joined fits [] q = refl
note_joined fits (e ∷ es) q = by (is_at (pair_cmp q) e.0) (pair_from q e.0) (note_joined fits es q)
  where
    by : (b : Bool) → (b ≡ true → (e.0.0 ≡ q.0) × (e.0.1 ≡ q.1))
        → lookup (is_at (pair_cmp q)) (map (under_fit fits) es)
        ≡ option_map (joined_at fits q.0 q.1) (lookup (is_at (pair_cmp q)) es)
        → cond b (Some (under_fit fits e).1) (lookup (is_at (pair_cmp q)) (map (under_fit fits) es))
        ≡ option_map (joined_at fits q.0 q.1) (cond b (Some e.1) (lookup (is_at (pair_cmp q)) es))
    by true same ih = ap (λ r. Some (joined_at fits r e.0.1 e.1)) (same refl).0
        ∙ ap (λ n. Some (joined_at fits q.0 n e.1)) (same refl).1
    by false same ih = ih

-- ---- rows that are put in or changed

-- a room put in, and joined
pub room_put : (fits : FitEntries) (es : List (ℕ × RoomRow)) (room : ℕ) (row : RoomRow)
    → map (with_fit fits) (insert_entry nat_cmp es room row)
    ≡ insert_entry nat_cmp (map (with_fit fits) es) room (with_last (last_fit (fits_at fits room)) row)
room_put fits [] room row = refl
room_put fits (e ∷ es) room row = by (nat_cmp room e.0) refl (room_put fits es room row)
  where
    by : (o : Ordering) → nat_cmp room e.0 ≡ o → map (with_fit fits) (insert_entry nat_cmp es room row)
        ≡ insert_entry nat_cmp (map (with_fit fits) es) room (with_last (last_fit (fits_at fits room)) row)
        → map (with_fit fits) (match_ordering o ((room, row) ∷ e ∷ es) ((e.0, row) ∷ es)
        (e ∷ insert_entry nat_cmp es room row))
        ≡ match_ordering o
        ((room, with_last (last_fit (fits_at fits room)) row) ∷ with_fit fits e ∷ map (with_fit fits) es)
        ((e.0, with_last (last_fit (fits_at fits room)) row) ∷ map (with_fit fits) es)
        (with_fit fits e
        ∷ insert_entry nat_cmp (map (with_fit fits) es) room (with_last (last_fit (fits_at fits room)) row))
    by Less c ih = refl
    by Equal c ih = ap (λ k. (e.0, with_last (last_fit (fits_at fits k)) row) ∷ map (with_fit fits) es)
        (sym (exact_unsigned room e.0 c))
    by Greater c ih = ap (λ rest. with_fit fits e ∷ rest) ih

-- a note put in, and joined
pub note_put : (fits : FitEntries) (es : List ((ℕ × ℕ) × Note)) (k : ℕ × ℕ) (note : Note)
    → map (under_fit fits) (insert_entry pair_cmp es k note)
    ≡ insert_entry pair_cmp (map (under_fit fits) es) k (joined_at fits k.0 k.1 note)
note_put fits [] k note = refl
note_put fits (e ∷ es) k note = by (pair_cmp k e.0) refl (note_put fits es k note)
  where
    by : (o : Ordering) → pair_cmp k e.0 ≡ o → map (under_fit fits) (insert_entry pair_cmp es k note)
        ≡ insert_entry pair_cmp (map (under_fit fits) es) k (joined_at fits k.0 k.1 note)
        → map (under_fit fits) (match_ordering o ((k, note) ∷ e ∷ es) ((e.0, note) ∷ es)
        (e ∷ insert_entry pair_cmp es k note))
        ≡ match_ordering o ((k, joined_at fits k.0 k.1 note) ∷ under_fit fits e ∷ map (under_fit fits) es)
        ((e.0, joined_at fits k.0 k.1 note) ∷ map (under_fit fits) es)
        (under_fit fits e ∷ insert_entry pair_cmp (map (under_fit fits) es) k (joined_at fits k.0 k.1 note))
    by Less c ih = refl
    by Equal c ih = ap (λ (q : ℕ × ℕ). (e.0, joined_at fits q.0 q.1 note) ∷ map (under_fit fits) es)
        (sym (pair_exact k e.0 c))
    by Greater c ih = ap (λ rest. under_fit fits e ∷ rest) ih

-- a room changed, and joined: f changes the table's row, and g the joined one
pub room_change_joined : (fits : FitEntries) (room : ℕ) (f g : RoomRow → RoomRow) (es : List (ℕ × RoomRow))
    → ((row : RoomRow) → at_number es room ≡ Some row
    → with_last (last_fit (fits_at fits room)) (f row) ≡ g (with_last (last_fit (fits_at fits room)) row))
    → map (with_fit fits) (room_changed room f es) ≡ room_changed room g (map (with_fit fits) es)
room_change_joined fits room f g [] same = refl
room_change_joined fits room f g (e ∷ es) same =
    by (e.0 == room) refl
    (λ apart. room_change_joined fits room f g es (λ row found. same row
    (ap (λ b. cond b (Some e.1) (at_number es room)) (at_is room e.0 ∙ apart) ∙ found)))
  where
    by : (b : Bool) → (e.0 == room) ≡ b → ((e.0 == room) ≡ false
        → map (with_fit fits) (room_changed room f es) ≡ room_changed room g (map (with_fit fits) es))
        → map (with_fit fits) (cond b ((e.0, f e.1) ∷ es) (e ∷ room_changed room f es))
        ≡ cond b ((e.0, g (with_fit fits e).1) ∷ map (with_fit fits) es)
        (with_fit fits e ∷ room_changed room g (map (with_fit fits) es))
    by true here ih =
        let k : e.0 ≡ room = eq_from e.0 room here in
        let now = same e.1 (ap (λ b. cond b (Some e.1) (at_number es room)) (at_is room e.0 ∙ here)) in
        let there : with_last (last_fit (fits_at fits e.0)) (f e.1) ≡ g (with_last (last_fit (fits_at fits e.0)) e.1) =
        subst (λ r. with_last (last_fit (fits_at fits r)) (f e.1) ≡ g (with_last (last_fit (fits_at fits r)) e.1))
        (sym k) now in
        ap (λ row. (e.0, row) ∷ map (with_fit fits) es) there
    by false apart ih = ap (λ rest. with_fit fits e ∷ rest) (ih apart)

-- ---- one fit more

-- the later fits are those before and one more, the last of its room
abbrev pub HasOneMore : FitEntries → FitEntries → ℕ → FitRow → Type 0
HasOneMore fits later room f = (r : ℕ) → fits_at later r ≡ when (room == r) (and_last f) (fits_at fits r)

-- a fit of a number above all of its room, put in
pub fit_put : (fits : FitEntries) (room number : ℕ) (f : FitRow) → InOrder pair_cmp (keys_of fits)
    → list_all (is_before room number) fits ≡ true
    → HasOneMore fits (insert_entry pair_cmp fits (room, number) f) room f
fit_put fits room number f order all r =
    fits_are_picked (insert_entry pair_cmp fits (room, number) f) r
    ∙ picked_more (λ (e : (ℕ × ℕ) × FitRow). e.1) fits room number f r order all
    ∙ ap (λ fs. when (room == r) (and_last f) fs) (sym (fits_are_picked fits r))

-- at another room nothing changes
pub other_fits : (fits later : FitEntries) (room : ℕ) (f : FitRow) → HasOneMore fits later room f → (r : ℕ)
    → (room == r) ≡ false → fits_at later r ≡ fits_at fits r
other_fits fits later room f more r apart = more r ∙ ap (λ b. when b (and_last f) (fits_at fits r)) apart

own_fits : (fits later : FitEntries) (room : ℕ) (f : FitRow) → HasOneMore fits later room f
    → fits_at later room ≡ fits_at fits room ++ f ∷ []
own_fits fits later room f more = more room ∙ ap (λ b. when b (and_last f) (fits_at fits room)) (eq_self room)

pub other_room_same : (fits later : FitEntries) (room : ℕ) (f : FitRow) → HasOneMore fits later room f
    → (e : ℕ × RoomRow)
    → (room == e.0) ≡ false → with_fit later e ≡ with_fit fits e
other_room_same fits later room f more e apart = ap (λ fs. (e.0, with_last (last_fit fs) e.1))
    (other_fits fits later room f more e.0 apart)

pub other_note_same : (fits later : FitEntries) (room : ℕ) (f : FitRow) → HasOneMore fits later room f
    → (e : (ℕ × ℕ) × Note)
    → (room == e.0.0) ≡ false → under_fit later e ≡ under_fit fits e
other_note_same fits later room f more e apart = ap (λ fs. (e.0, with_count (fit_of_number fs e.0.1) e.0.1 e.1))
    (other_fits fits later room f more e.0.0 apart)

-- the room's row is of that fit
pub own_room_later : (fits later : FitEntries) (room : ℕ) (f : FitRow) → HasOneMore fits later room f → (row : RoomRow)
    → with_fit later (room, row) ≡ (room, record row { fit = f.fit; before = f.before })
own_room_later fits later room f more row = ap (λ fs. (room, with_last (last_fit fs) row))
    (own_fits fits later room f more) ∙ ap (λ o. (room, with_last o row)) (last_more (fits_at fits room) f)

none_last : (fs : List FitRow) → last_fit fs ≡ last_fit (fs ++ [])
none_last [] = refl
none_last (a ∷ []) = refl
none_last (a ∷ b ∷ fs) = none_last (b ∷ fs)

filter_more : (p : FitRow → Bool) (fs : List FitRow) (f : FitRow)
    → filter p (fs ++ f ∷ []) ≡ filter p fs ++ cond (p f) (f ∷ []) []
filter_more p [] f = refl
filter_more p (a ∷ fs) f = by (p a) (filter_more p fs f)
  where
    by : (b : Bool) → filter p (fs ++ f ∷ []) ≡ filter p fs ++ cond (p f) (f ∷ []) []
        → cond b (a ∷ filter p (fs ++ f ∷ [])) (filter p (fs ++ f ∷ []))
        ≡ cond b (a ∷ filter p fs) (filter p fs) ++ cond (p f) (f ∷ []) []
    by true ih = ap (λ rest. a ∷ rest) ih
    by false ih = ih

-- a note of a number that isn't above those before one more fit isn't of that fit
pub number_before : (fs : List FitRow) (f : FitRow) (n : ℕ) → n ≤ f.before
    → fit_of_number (fs ++ f ∷ []) n ≡ fit_of_number fs n
number_before fs f n l =
    let p = λ (x : FitRow). nat_lt x.before n in
    let no : nat_lt f.before n ≡ false = not_below f.before n l in
    ap last_fit (filter_more p fs f ∙ ap (λ b. filter p fs ++ cond b (f ∷ []) []) no) ∙ sym (none_last (filter p fs))
  where
    not_below : (a b : ℕ) → b ≤ a → nat_lt a b ≡ false
    not_below a b l = grind (arith, nat_tests)

-- and one of a number above them is
pub number_after : (fs : List FitRow) (f : FitRow) (n : ℕ) → f.before < n → fit_of_number (fs ++ f ∷ []) n ≡ Some f
number_after fs f n l =
    let p = λ (x : FitRow). nat_lt x.before n in
    let yes : nat_lt f.before n ≡ true = below f.before n l in
    ap last_fit (filter_more p fs f ∙ ap (λ b. filter p fs ++ cond b (f ∷ []) []) yes) ∙ last_more (filter p fs) f
  where
    below : (a b : ℕ) → a < b → nat_lt a b ≡ true
    below a b l = grind (arith, nat_tests)

-- a note of a number above those before the last fit is of it
pub number_of_last : (fs : List FitRow) (f : FitRow) (n : ℕ) → last_fit fs ≡ Some f → f.before < n
    → fit_of_number fs n ≡ Some f
number_of_last [] f n e l = absurd (let w : ◌≡◌ {A = Option FitRow} None (Some f) = e in cc)
number_of_last (a ∷ []) f n e l =
    let same : a.before ≡ f.before = ap (λ o. said_of o 0 (λ (x : FitRow). x.before)) e in
    ap (λ b. last_fit (cond b (a ∷ []) [])) (below a.before n (omega arith)) ∙ e
  where
    below : (a b : ℕ) → a < b → nat_lt a b ≡ true
    below a b l = grind (arith, nat_tests)
number_of_last (a ∷ b ∷ fs) f n e l = over_by (nat_lt a.before n) a
    (filter (λ (x : FitRow). nat_lt x.before n) (b ∷ fs)) (number_of_last (b ∷ fs) f n e l)
  where
    over : (x : FitRow) (ys : List FitRow) → last_fit ys ≡ Some f → last_fit (x ∷ ys) ≡ Some f
    over x [] h = absurd (let w : ◌≡◌ {A = Option FitRow} None (Some f) = h in cc)
    over x (y ∷ ys) h = h

    over_by : (c : Bool) (x : FitRow) (ys : List FitRow) → last_fit ys ≡ Some f → last_fit (cond c (x ∷ ys) ys) ≡ Some f
    over_by true x ys h = over x ys h
    over_by false x ys h = h

-- the note isn't of the room, or of a number that isn't above those before the fit
abbrev pub is_earlier : ℕ → FitRow → (ℕ × ℕ) × Note → Bool
is_earlier room f e = not (room == e.0.0) || nat_le e.0.1 f.before

-- notes that were taken before one more fit stay as they are
pub notes_stay : (fits later : FitEntries) (room : ℕ) (f : FitRow) → HasOneMore fits later room f
    → (es : List ((ℕ × ℕ) × Note)) → list_all (is_earlier room f) es ≡ true
    → map (under_fit later) es ≡ map (under_fit fits) es
notes_stay fits later room f more [] all = refl
notes_stay fits later room f more (e ∷ es) all =
    let p = and_true (is_earlier room f e) (list_all (is_earlier room f) es) all in
    ap (λ x. x ∷ map (under_fit later) es) (by (room == e.0.0) refl p.0)
    ∙ ap (λ xs. under_fit fits e ∷ xs) (notes_stay fits later room f more es p.1)
  where
    low : (a b : ℕ) → nat_le a b ≡ true → a ≤ b
    low a b t = grind (arith, nat_tests)

    by : (b : Bool) → (room == e.0.0) ≡ b → (not b || nat_le e.0.1 f.before) ≡ true
        → under_fit later e ≡ under_fit fits e
    by true here t =
        let same : fits_at later e.0.0 ≡ fits_at fits e.0.0 ++ f ∷ [] =
        more e.0.0 ∙ ap (λ b. when b (and_last f) (fits_at fits e.0.0)) here in
        ap (λ fs. (e.0, with_count (fit_of_number fs e.0.1) e.0.1 e.1)) same
        ∙ ap (λ o. (e.0, with_count o e.0.1 e.1)) (number_before (fits_at fits e.0.0) f e.0.1 (low e.0.1 f.before t))
    by false apart t = other_note_same fits later room f more e apart

-- rooms but that of one more fit stay as they are
pub rooms_stay : (fits later : FitEntries) (room : ℕ) (f : FitRow) → HasOneMore fits later room f
    → (es : List (ℕ × RoomRow))
    → at_number es room ≡ None → map (with_fit later) es ≡ map (with_fit fits) es
rooms_stay fits later room f more [] none = refl
rooms_stay fits later room f more (e ∷ es) none =
    let p = apart (e.0 == room) refl (ap (λ b. cond b (Some e.1) (at_number es room)) (sym (at_is room e.0)) ∙ none) in
    ap (λ x. x ∷ map (with_fit later) es) (other_room_same fits later room f more e p.0)
    ∙ ap (λ xs. with_fit fits e ∷ xs) (rooms_stay fits later room f more es p.1)
  where
    turned : (a b : ℕ) → (a == b) ≡ false → (b == a) ≡ false
    turned a b t = grind (arith, nat_tests)

    apart : (b : Bool) → (e.0 == room) ≡ b → cond b (Some e.1) (at_number es room) ≡ None
        → ((room == e.0) ≡ false) × (at_number es room ≡ None)
    apart true here h = absurd (let w : ◌≡◌ {A = Option RoomRow} (Some e.1) None = h in cc)
    apart false here h = (turned e.0 room here, h)

-- no later room has the number of an earlier one
abbrev pub none_twice : List (ℕ × RoomRow) → Type 0
none_twice [] = Unit {0}
none_twice (e ∷ es) = (at_number es e.0 ≡ None) × none_twice es

none_later : (k : ℕ) (es : List (ℕ × RoomRow)) → AllAfter nat_cmp k (keys_of es) → at_number es k ≡ None
none_later k [] a = refl
none_later k (e ∷ es) a = ap (λ o. cond (is_eq o) (Some e.1) (at_number es k)) a.0 ∙ none_later k es a.1

-- rooms in the order of their numbers
pub once_in_order : (es : List (ℕ × RoomRow)) → InOrder nat_cmp (keys_of es) → none_twice es
once_in_order [] order = tt
once_in_order (e ∷ es) order = (none_later e.0 es order.0, once_in_order es order.1)

-- A room changed with one more fit, and joined: f changes the table's row, and g the joined one.
pub refit_joined : (fits later : FitEntries) (room : ℕ) (x : FitRow) → HasOneMore fits later room x
    → (f g : RoomRow → RoomRow) (es : List (ℕ × RoomRow)) → none_twice es
    → ((row : RoomRow) → at_number es room ≡ Some row
    → record (f row) { fit = x.fit; before = x.before } ≡ g (with_last (last_fit (fits_at fits room)) row))
    → map (with_fit later) (room_changed room f es) ≡ room_changed room g (map (with_fit fits) es)
refit_joined fits later room x more f g [] once same = refl
refit_joined fits later room x more f g (e ∷ es) once same =
    by (e.0 == room) refl
    (λ apart. refit_joined fits later room x more f g es once.1
    (λ row found. same row (ap (λ b. cond b (Some e.1) (at_number es room)) (at_is room e.0 ∙ apart) ∙ found)))
  where
    turned : (a b : ℕ) → (a == b) ≡ false → (b == a) ≡ false
    turned a b t = grind (arith, nat_tests)

    by : (b : Bool) → (e.0 == room) ≡ b → ((e.0 == room) ≡ false
        → map (with_fit later) (room_changed room f es) ≡ room_changed room g (map (with_fit fits) es))
        → map (with_fit later) (cond b ((e.0, f e.1) ∷ es) (e ∷ room_changed room f es))
        ≡ cond b ((e.0, g (with_fit fits e).1) ∷ map (with_fit fits) es)
        (with_fit fits e ∷ room_changed room g (map (with_fit fits) es))
    by true here ih =
        let k : e.0 ≡ room = eq_from e.0 room here in
        let now = same e.1 (ap (λ b. cond b (Some e.1) (at_number es room)) (at_is room e.0 ∙ here)) in
        let rest = rooms_stay fits later room x more es (subst (λ r. at_number es r ≡ None) k once.0) in
        let own : with_fit later (room, f e.1) ≡ (room, record (f e.1) { fit = x.fit; before = x.before }) =
        own_room_later fits later room x more (f e.1) in
        let first : with_fit later (e.0, f e.1) ≡ (e.0, g (with_fit fits e).1) =
        subst (λ r. with_fit later (r, f e.1) ≡ (r, g (with_last (last_fit (fits_at fits r)) e.1))) (sym k)
        (own ∙ ap (λ row. (room, row)) now) in
        ap (λ y. y ∷ map (with_fit later) es) first ∙ ap (λ ys. (e.0, g (with_fit fits e).1) ∷ ys) rest
    by false apart ih = ap (λ y. y ∷ map (with_fit later) (room_changed room f es))
        (other_room_same fits later room x more e (turned e.0 room apart)) ∙ ap (λ ys. with_fit fits e ∷ ys) (ih apart)
