-- The notes of sound rows: the note of a room's number is the one of that place.
use Rattle.std.proofs.Common.{ℕ, zero, suc, ◌≡◌, ◌≤◌, ◌+◌, Bool, true, false, Some, None, List, [], ◌∷◌, drop, refl, ap}
use Rattle.std.proofs.Common.{sym, ◌∙◌, arith, ◌==◌, ◌&&◌, is_some, nat_le, length}
use Rattle.hotel_model.proofs.Names.{is_at, list_all, lookup, Note, RoomRow, when, pair_cmp, Rows, at_number, notes_at}
use Rattle.hotel_model.proofs.Names.{numbers_at, start, notes, is_room, count_up, is_day, act_fits, note_fits, IsSound}
use Rattle.hotel_model.proofs.OfTables.Pairs.{pair_cmp_total}
use Rattle.hotel_model.proofs.OfTables.Tests.{eq_from, and_true, not_both, le_tested}
use Rattle.hotel_model.proofs.{OfTables.RowTests.found_passes, OfTables.RowTests.all_found, Starts.StartRules.some_of}
use Rattle.hotel_model.proofs.OfTables.AtRoom.{first_in, some_left, found_at, notes_are_picked, numbers_are_picked}
use Rattle.hotel_model.proofs.{Starts.StartCodes.room_is, Starts.StartCodes.has_no_row, Starts.StartCodes.orders}
use Rattle.hotel_model.proofs.{Starts.StartLedger.not_there}

-- each note has a room that is there
abbrev Kept : Rows → List ((ℕ × ℕ) × Note) → Type 0
Kept t [] = Unit {0}
Kept t (e ∷ es) = (is_some (at_number t.rooms e.0.0) ≡ true) × Kept t es

kept_from : (t : Rows) (es : List ((ℕ × ℕ) × Note)) → list_all (note_fits t) es ≡ true → Kept t es
kept_from t [] a = tt
kept_from t (e ∷ es) a =
    let p = and_true (note_fits t e) (list_all (note_fits t) es) a in
    let q =
    and_true ((e.1.room == e.0.0) && is_some (at_number t.rooms e.0.0) && act_fits t e.0.0 e.1.act && is_day e.1.day)
    (nat_le e.1.second 86399) p.0 in
    let u = and_true ((e.1.room == e.0.0) && is_some (at_number t.rooms e.0.0) && act_fits t e.0.0 e.1.act)
    (is_day e.1.day) q.0 in
    let v = and_true ((e.1.room == e.0.0) && is_some (at_number t.rooms e.0.0)) (act_fits t e.0.0 e.1.act) u.0 in
    let w = and_true (e.1.room == e.0.0) (is_some (at_number t.rooms e.0.0)) v.0 in
    (w.1, kept_from t es p.1)

-- where there is no room there are no notes
none_by : {Y : Type 0} (b : Bool) (y : Y) (ys : List Y) → (b ≡ true → ⊥) → ys ≡ [] → when b (λ ys. y ∷ ys) ys ≡ []
none_by true y ys f n = absurd (f refl)
none_by false y ys f n = n

no_notes : (t : Rows) (r : ℕ) → at_number t.rooms r ≡ None → (es : List ((ℕ × ℕ) × Note))
    → Kept t es → notes_at es r ≡ []
no_notes t r n [] a = refl
no_notes t r n (e ∷ es) a =
    none_by (e.0.0 == r) e.1 (notes_at es r) (λ q. not_both _ a.0
    (ap (λ z. is_some (at_number t.rooms z)) (eq_from e.0.0 r q) ∙ ap is_some n)) (no_notes t r n es a.1)

no_numbers : (t : Rows) (r : ℕ) → at_number t.rooms r ≡ None → (es : List ((ℕ × ℕ) × Note))
    → Kept t es → numbers_at es r ≡ []
no_numbers t r n [] a = refl
no_numbers t r n (e ∷ es) a =
    none_by (e.0.0 == r) e.0.1 (numbers_at es r) (λ q. not_both _ a.0
    (ap (λ z. is_some (at_number t.rooms z)) (eq_from e.0.0 r q) ∙ ap is_some n)) (no_numbers t r n es a.1)

-- Where there is no room nothing was noted.
pub nothing_noted_at_start : (t : Rows) → IsSound t → (r : ℕ) → is_room (start t) r ≡ false → notes (start t) r ≡ []
nothing_noted_at_start t s r e = no_notes t r (not_there t r e) t.notes (kept_from t t.notes s.note_fits)

as_many_by : (b : Bool) (note : Note) (number : ℕ) (numbers : List ℕ) (taken : List Note)
    → length numbers ≡ length taken
    → length (when b (λ ns. number ∷ ns) numbers) ≡ length (when b (λ ns. note ∷ ns) taken)
as_many_by true note number numbers taken e = omega arith
as_many_by false note number numbers taken e = e

-- a room has as many numbers as notes
pub as_many_numbers : (es : List ((ℕ × ℕ) × Note)) (r : ℕ) → length (numbers_at es r) ≡ length (notes_at es r)
as_many_numbers [] r = refl
as_many_numbers (e ∷ es) r = as_many_by (e.0.0 == r) e.1 e.0.1 (numbers_at es r) (notes_at es r) (as_many_numbers es r)

-- what the rule says of a room's numbers
pub numbers_said : (t : Rows) → IsSound t → (r : ℕ) (row : RoomRow) → at_number t.rooms r ≡ Some row
    → (count_up 1 (numbers_at t.notes r) ≡ true) × (length (numbers_at t.notes r) ≡ row.notes)
numbers_said t s r row e =
    let a = found_passes (λ (e : ℕ × RoomRow). count_up 1 (numbers_at t.notes e.1.room)
    && (length (numbers_at t.notes e.1.room) == e.1.notes)) t.rooms r row s.note_counted e in
    let b = and_true (count_up 1 (numbers_at t.notes row.room)) (length (numbers_at t.notes row.room) == row.notes) a in
    let same = room_is t s r row e in (
      ap (λ z. count_up 1 (numbers_at t.notes z)) (sym same) ∙ b.0,
      ap (λ z. length (numbers_at t.notes z)) (sym same) ∙ eq_from _ _ b.1,
    )

-- The numbers of a room's notes are 1, 2 and so on.
pub numbers_count_at_start : (t : Rows) → IsSound t → (r : ℕ) → count_up 1 (numbers_at t.notes r) ≡ true
numbers_count_at_start t s r = by (is_some (at_number t.rooms r)) refl
  where
    by : (b : Bool) → is_some (at_number t.rooms r) ≡ b → count_up 1 (numbers_at t.notes r) ≡ true
    by true q = let row = some_of (at_number t.rooms r) q in (numbers_said t s r row.0 row.1).0
    by false q = ap (λ zs. count_up 1 zs) (no_numbers t r (has_no_row t r q) t.notes (kept_from t t.notes s.note_fits))

-- The note of a room's number k + 1 is the first after k notes there.
pub note_kept_at_start : (t : Rows) → IsSound t → (r k : ℕ)
    → lookup (is_at (pair_cmp (r, k + 1))) t.notes ≡ first_in (drop k (notes_at t.notes r))
note_kept_at_start t s r k =
    let m : k + 1 ≡ 1 + k = omega arith in
    ap (λ z. lookup (is_at (pair_cmp (r, z))) t.notes) m ∙ found_at t.notes r 1 k
    (sym (ap (λ ns. count_up 1 ns) (numbers_are_picked t.notes r)) ∙ numbers_count_at_start t s r)
    ∙ ap (λ ns. first_in (drop k ns)) (sym (notes_are_picked t.notes r))

within_by : (t : Rows) → IsSound t → (r c : ℕ) (note : Note)
    → lookup (is_at (pair_cmp (r, c))) t.notes ≡ Some note → c ≤ length (notes_at t.notes r)
within_by t s r zero note e = omega arith
within_by t s r (suc k) note e =
    let m : k + 1 ≡ suc k = omega arith in
    let l = some_left k (notes_at t.notes r) note
    (sym (note_kept_at_start t s r k) ∙ ap (λ z. lookup (is_at (pair_cmp (r, z))) t.notes) m ∙ e) in
    omega arith

-- No note has a number above how many its room has.
pub numbers_within_at_start : (t : Rows)
    → IsSound t → list_all (λ (e : (ℕ × ℕ) × Note). nat_le e.0.1 (length (notes_at t.notes e.0.0))) t.notes ≡ true
numbers_within_at_start t s =
    all_found pair_cmp pair_cmp_total (λ (e : (ℕ × ℕ) × Note). nat_le e.0.1 (length (notes_at t.notes e.0.0))) t.notes
    (orders t s).notes (λ k note e. le_tested _ _ (within_by t s k.0 k.1 note e))
