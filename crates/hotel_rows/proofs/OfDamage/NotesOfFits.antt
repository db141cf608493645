-- The rules of fits and the joining make each note one of a fit, and each room's row one of its last fit.
use Rattle.std.proofs.Common.{◌≡◌, ◌≤◌, ℕ, suc, ◌+◌, ◌-◌, Bool, true, false, ◌==◌, ◌&&◌, ◌||◌, not}
use Rattle.std.proofs.Common.{List, [], ◌∷◌, map, drop, length, Option, Some, None, refl, sym, ap, subst, ◌∙◌}
use Rattle.std.proofs.Common.{arith, nat_le, is_some}
use Rattle.std.specs.List.{list_all}
use Rattle.std.specs.BTreeMap.{is_at}
use Rattle.std.specs.Map.{lookup}
use Rattle.std.proofs.lemmas.Bool.Decides.{nat_tests}
use Rattle.keycard_rules.specs.Note.{Note}
use Rattle.hotel_model.specs.declared.rows.RoomRow.{RoomRow}
use Rattle.hotel_model.specs.declared.rows.FitRow.{FitRow}
use Rattle.hotel_model.specs.Words.{when, said_of, pair_cmp}
use Rattle.hotel_model.specs.Rows.{Rows, at_number, fits_at, last_fit}
use Rattle.hotel_model.specs.SoundRooms.{count_up}
use Rattle.hotel_model.specs.SoundNotes.{numbers_at, note_fits, notes_fit, notes_counted, is_of_fit, notes_of_fits}
use Rattle.hotel_model.specs.SoundNotes.{act_fits}
use Rattle.hotel_model.specs.SoundFits.{fit_numbers, first_fits, first_is_first, rows_of_last_fits}
use Rattle.hotel_model.proofs.OfTables.Tests.{and_true, eq_from, eq_self, not_both}
use Rattle.hotel_model.proofs.OfTables.RowTests.{both, found_passes}
use Rattle.hotel_model.proofs.OfTables.AtRoom.{first_in}
use Rattle.hotel_rows.specs.Joined.{with_last, fit_of_number}
use Rattle.hotel_rows.specs.declared.stored.PlainFit.{PlainFit}
use Rattle.hotel_rows.specs.declared.stored.PlainNote.{PlainNote}
use Rattle.hotel_rows.specs.declared.stored.Stored.{Stored}
use Rattle.hotel_rows.specs.Stored.{number_of, room_row, fit_entry, note_row, joined_note, plain_fits, fits_of}
use Rattle.hotel_rows.specs.Stored.{rows_of}
use Rattle.hotel_rows.specs.Keys.{note_key}
use Rattle.hotel_rows.proofs.OfJoined.Numbers.{stands_at, has_fit, number_at, fit_found}
use Rattle.hotel_rows.proofs.OfDamage.RowsTogether.{all_rooms}
use Rattle.hotel_rows.proofs.OfDamage.NoteCounts.{all_notes}

-- ---- the row of a room

-- a row joined with a fit is of that fit
last_said : (o : Option FitRow) (row : RoomRow) → said_of o true
    (λ f. ((with_last o row).fit == f.fit) && ((with_last o row).before == f.before)) ≡ true
last_said (Some f) row = both _ _ (eq_self f.fit) (eq_self f.before)
last_said None row = refl

all_yes : {L : Type 0} (t : L → Bool) (ls : List L) → ((l : L) → t l ≡ true) → list_all t ls ≡ true
all_yes t [] e = refl
all_yes t (l ∷ ls) e = both _ _ (e l) (all_yes t ls e)

-- Each room's row says of its last fit which it is, and how many notes were taken before it.
pub of_last_fits : (s : Stored) → rows_of_last_fits (rows_of s) ≡ true
of_last_fits s =
    all_rooms (λ (e : ℕ × RoomRow). said_of (last_fit (fits_at (fits_of s) e.1.room)) true
    (λ f. (e.1.fit == f.fit) && (e.1.before == f.before))) (fits_of s) s.room.items
    ∙ all_yes _ s.room.items (λ plain. last_said (last_fit (fits_at (fits_of s) (number_of plain.room)))
    (room_row plain))

-- ---- the fit of a note

at_least : (a b : ℕ) → nat_le a b ≡ true → a ≤ b
at_least a b e = grind (arith, nat_tests)

at_least_so : (a b : ℕ) → a ≤ b → nat_le a b ≡ true
at_least_so a b l = grind (arith, nat_tests)

-- each fit's row is of its key
own_fits : (ls : List PlainFit) → list_all (λ (e : (ℕ × ℕ) × FitRow). e.1.fit == e.0.1) (map fit_entry ls) ≡ true
own_fits [] = refl
own_fits (l ∷ ls) = both _ _ (eq_self (number_of l.fit)) (own_fits ls)

-- the rule on a note, where this is its fit
abbrev OfFit : List PlainFit → ℕ → ℕ → Option FitRow → Bool
OfFit ls r n o =
    nat_le 1 (said_of o n (λ f. n - f.before)) && said_of
    (lookup (is_at (pair_cmp (r, said_of o 0 (λ f. f.fit)))) (map fit_entry ls)) false
    (λ f. n == f.before + said_of o n (λ f. n - f.before))
    && said_of (lookup (is_at (pair_cmp (r, said_of o 0 (λ f. f.fit) + 1))) (map fit_entry ls)) true
    (λ next. nat_le n next.before)

note_of_fit : (ls : List PlainFit) (r n : ℕ) → 1 ≤ n
    → count_up 1 (map (λ (f : FitRow). f.fit) (fits_at (map fit_entry ls) r)) ≡ true
    → nat_le 1 (length (fits_at (map fit_entry ls) r)) ≡ true
    → first_is_first (fits_at (map fit_entry ls) r) ≡ true
    → OfFit ls r n (fit_of_number (fits_at (map fit_entry ls) r) n) ≡ true
note_of_fit ls r n l up some first =
    let fs = fits_at (map fit_entry ls) r in
    let f = has_fit n fs l some first in
    let at = stands_at n fs f.0 f.1 in
    let number : f.0.fit ≡ 1 + at.0 = number_at 1 at.0 fs f.0 up at.1.0 in
    let found : lookup (is_at (pair_cmp (r, f.0.fit))) (map fit_entry ls) ≡ Some f.0 =
    ap (λ k. lookup (is_at (pair_cmp (r, k))) (map fit_entry ls)) number
    ∙ fit_found (map fit_entry ls) r at.0 (own_fits ls) up ∙ at.1.0 in
    let next : f.0.fit + 1 ≡ 1 + suc at.0 = omega arith in
    let after : lookup (is_at (pair_cmp (r, f.0.fit + 1))) (map fit_entry ls) ≡ first_in (drop (suc at.0) fs) =
    ap (λ k. lookup (is_at (pair_cmp (r, k))) (map fit_entry ls)) next
    ∙ fit_found (map fit_entry ls) r (suc at.0) (own_fits ls) up in
    let below = at.1.1 in
    let sum : n ≡ f.0.before + (n - f.0.before) = omega arith in
    let counted : OfFit ls r n (Some f.0) ≡ true =
    both _ _ (both _ _ (at_least_so 1 (n - f.0.before) (omega arith))
    (ap (λ o. said_of o false (λ f'. n == f'.before + (n - f.0.before))) found ∙ ap (λ z. n == z) (sym sum)
    ∙ eq_self n))
    (ap (λ o. said_of o true (λ next. nat_le n next.before)) after ∙ at.1.2) in
    ap (OfFit ls r n) f.1 ∙ counted

-- ---- all notes

rest_of : (b : Bool) (p : ℕ → Bool) (n : ℕ) (ns : List ℕ) → list_all p (when b (λ xs. n ∷ xs) ns) ≡ true
    → list_all p ns ≡ true
rest_of true p n ns a = (and_true (p n) (list_all p ns) a).1
rest_of false p n ns a = a

first_of : (b : Bool) (p : ℕ → Bool) (n : ℕ) (ns : List ℕ) → b ≡ true → list_all p (when b (λ xs. n ∷ xs) ns) ≡ true
    → p n ≡ true
first_of true p n ns t a = (and_true (p n) (list_all p ns) a).0
first_of false p n ns t a = not_both false t refl

-- what holds of the numbers of each room's notes holds of each
all_by_room : (p : ℕ → ℕ → Bool) (es : List ((ℕ × ℕ) × Note)) → ((r : ℕ) → list_all (p r) (numbers_at es r) ≡ true)
    → list_all (λ (e : (ℕ × ℕ) × Note). p e.0.0 e.0.1) es ≡ true
all_by_room p [] a = refl
all_by_room p (e ∷ es) a =
    both _ _ (first_of (e.0.0 == e.0.0) (p e.0.0) e.0.1 (numbers_at es e.0.0) (eq_self e.0.0) (a e.0.0))
    (all_by_room p es (λ r. rest_of (e.0.0 == r) (p r) e.0.1 (numbers_at es r) (a r)))

-- numbers that go up from 1 or more
from_one : (k : ℕ) (ns : List ℕ) → 1 ≤ k → count_up k ns ≡ true → list_all (λ n. nat_le 1 n) ns ≡ true
from_one k [] l up = refl
from_one k (n ∷ ns) l up =
    let p = and_true (n == k) (count_up (k + 1) ns) up in
    let here = eq_from n k p.0 in
    both _ _ (at_least_so 1 n (omega arith)) (from_one (k + 1) ns (omega arith) p.1)

-- where the room is there, the number is 1 or more
abbrev is_numbered : Rows → ℕ → ℕ → Bool
is_numbered rows r n = not (is_some (at_number rows.rooms r)) || nat_le 1 n

numbered_at : (rows : Rows) → notes_counted rows ≡ true
    → ((r : ℕ) (row : RoomRow) → at_number rows.rooms r ≡ Some row → row.room ≡ r) → (r : ℕ)
    → list_all (is_numbered rows r) (numbers_at rows.notes r) ≡ true
numbered_at rows counted own r = by (at_number rows.rooms r) refl
  where
    by : (o : Option RoomRow) → at_number rows.rooms r ≡ o
        → list_all (is_numbered rows r) (numbers_at rows.notes r) ≡ true
    by None e = all_yes (is_numbered rows r) (numbers_at rows.notes r) (λ n. ap (λ o. not (is_some o) || nat_le 1 n) e)
    by (Some row) e =
        let up = (and_true (count_up 1 (numbers_at rows.notes row.room))
        (length (numbers_at rows.notes row.room) == row.notes)
        (found_passes (λ (e : ℕ × RoomRow). count_up 1 (numbers_at rows.notes e.1.room)
        && (length (numbers_at rows.notes e.1.room) == e.1.notes)) rows.rooms r row counted e)).0 in
        let ones : list_all (λ n. nat_le 1 n) (numbers_at rows.notes r) ≡ true =
        subst (λ q. list_all (λ n. nat_le 1 n) (numbers_at rows.notes q) ≡ true) (own r row e)
        (from_one 1 (numbers_at rows.notes row.room) (omega arith) up) in
        subst (λ o. list_all (λ n. not (is_some o) || nat_le 1 n) (numbers_at rows.notes r) ≡ true) (sym e) ones

pub all_from : {L : Type 0} (a b c : L → Bool) → ((l : L) → a l ≡ true → b l ≡ true → c l ≡ true) → (ls : List L)
    → list_all a ls ≡ true → list_all b ls ≡ true → list_all c ls ≡ true
all_from a b c f [] p q = refl
all_from a b c f (l ∷ ls) p q =
    let x = and_true (a l) (list_all a ls) p in
    let y = and_true (b l) (list_all b ls) q in
    both _ _ (f l x.0 y.0) (all_from a b c f ls x.1 y.1)

-- some room's row
some_row : (o : Option RoomRow) → is_some o ≡ true → (row : RoomRow) × (o ≡ Some row)
some_row (Some row) t = (row, refl)
some_row None t = not_both false t refl

or_not : (a b : Bool) → a ≡ true → (not a || b) ≡ true → b ≡ true
or_not true b e t = t
or_not false b e t = not_both false e refl

-- Each note has the fit and the count of its number.
pub of_fits : (s : Stored) → notes_counted (rows_of s) ≡ true → notes_fit (rows_of s) ≡ true
    → fit_numbers (rows_of s) ≡ true → first_fits (rows_of s) ≡ true
    → ((r : ℕ) (row : RoomRow) → at_number (rows_of s).rooms r ≡ Some row → row.room ≡ r)
    → notes_of_fits (rows_of s) ≡ true
of_fits s counted fit numbers first own =
    let rows = rows_of s in
    let ls = plain_fits s in
    let numbered = all_by_room (is_numbered rows) rows.notes (numbered_at rows counted own) in
    all_notes (is_of_fit rows) (fits_of s) s.note.items
    ∙ all_from (λ plain. note_fits rows (note_key plain, joined_note (fits_of s) plain))
    (λ plain. is_numbered rows (number_of plain.room) (number_of plain.n))
    (λ plain. is_of_fit rows (note_key plain, joined_note (fits_of s) plain))
    (λ plain a b. of_one plain a b) s.note.items (sym (all_notes (note_fits rows) (fits_of s) s.note.items) ∙ fit)
    (sym (all_notes (λ (e : (ℕ × ℕ) × Note). is_numbered rows e.0.0 e.0.1) (fits_of s) s.note.items) ∙ numbered)
  where
    of_one : (plain : PlainNote) → note_fits (rows_of s) (note_key plain, joined_note (fits_of s) plain) ≡ true
        → is_numbered (rows_of s) (number_of plain.room) (number_of plain.n) ≡ true
        → is_of_fit (rows_of s) (note_key plain, joined_note (fits_of s) plain) ≡ true
    of_one plain a b =
        let rows = rows_of s in
        let ls = plain_fits s in
        let r = number_of plain.room in
        let n = number_of plain.n in
        let a4 = and_true _ (nat_le (number_of plain.second) 86399) a in
        let a3 = and_true _ (nat_le (number_of plain.day) 36524) a4.0 in
        let a2 = and_true _ (act_fits rows r (note_row plain).act) a3.0 in
        let there : is_some (at_number rows.rooms r) ≡ true =
        (and_true (number_of plain.room == number_of plain.room) (is_some (at_number rows.rooms r)) a2.0).1 in
        let row = some_row (at_number rows.rooms r) there in
        let ours = own r row.0 row.1 in
        let fits = λ (q : ℕ). fits_at (map fit_entry ls) q in
        let all = (and_true _ (list_all (λ (e : ℕ × RoomRow). count_up 1 (map (λ (f : FitRow). f.fit) (fits e.1.room))
        && nat_le 1 (length (fits e.1.room)) && nat_le (length (fits e.1.room)) 99) rows.rooms) numbers).1 in
        let q = found_passes (λ (e : ℕ × RoomRow). count_up 1 (map (λ (f : FitRow). f.fit) (fits e.1.room))
        && nat_le 1 (length (fits e.1.room)) && nat_le (length (fits e.1.room)) 99) rows.rooms r row.0 all row.1 in
        let q1 = and_true (count_up 1 (map (λ (f : FitRow). f.fit) (fits row.0.room))
        && nat_le 1 (length (fits row.0.room))) (nat_le (length (fits row.0.room)) 99) q in
        let q2 = and_true (count_up 1 (map (λ (f : FitRow). f.fit) (fits row.0.room)))
        (nat_le 1 (length (fits row.0.room))) q1.0 in
        let begins = found_passes (λ (e : ℕ × RoomRow). first_is_first (fits e.1.room))
        rows.rooms r row.0 first row.1 in
        note_of_fit ls r n (at_least 1 n (or_not (is_some (at_number rows.rooms r)) (nat_le 1 n) there b))
        (subst (λ z. count_up 1 (map (λ (f : FitRow). f.fit) (fits z)) ≡ true) ours q2.0)
        (subst (λ z. nat_le 1 (length (fits z)) ≡ true) ours q2.1)
        (subst (λ z. first_is_first (fits z) ≡ true) ours begins)
