-- Counts of notes, from the last one on.
use Rattle.std.proofs.Common.{◌≡◌, ℕ, pos, suc, ◌+◌, Bool, true, false, cond, ◌==◌, ◌&&◌, List, [], ◌∷◌, map, length}
use Rattle.std.proofs.Common.{None, refl, sym, ap, ◌∙◌, arith}
use Rattle.std.specs.Prelude.{is_some, nat_le}
use Rattle.std.specs.List.{list_all}
use Rattle.std.specs.Map.{keys_of}
use Rattle.keycard_rules.specs.Note.{Note}
use Rattle.hotel_model.specs.declared.rows.RoomRow.{RoomRow}
use Rattle.hotel_model.specs.Words.{when, last_of, said_of, pair_cmp}
use Rattle.hotel_model.specs.Rows.{at_number}
use Rattle.hotel_model.specs.SoundRooms.{are_in_order, count_up, is_day}
use Rattle.hotel_model.specs.SoundNotes.{numbers_at, notes_counted, notes_fit, note_fits, act_fits}
use Rattle.hotel_model.proofs.OfTables.RowTests.{all_mapped}
use Rattle.hotel_books.proofs.OfTables.MapEntries.{eq_from, eq_self, eq_turned}
use Rattle.hotel_rows.specs.declared.damage.note_runs.NoteRun.{NoteRun}
use Rattle.hotel_rows.specs.declared.stored.PlainNote.{PlainNote}
use Rattle.hotel_rows.specs.declared.stored.Stored.{Stored}
use Rattle.hotel_rows.specs.Joined.{under_fit, FitEntries}
use Rattle.hotel_rows.specs.Stored.{number_of, note_row, note_entry, joined_note, fits_of, rows_of}
use Rattle.hotel_rows.specs.Keys.{note_key}
use Rattle.hotel_rows.specs.Damage.{are_note_columns, note_holds}
use Rattle.hotel_rows.specs.RowTests.{plain_note_fits}
use Rattle.hotel_rows.specs.NoteRuns.{note_run_of, NoteRunsOf, counted_as_due}
use Rattle.hotel_rows.proofs.OfDamage.RowsTogether.{all_and, all_alike, all_rooms}

-- what stands past the end of a list of notes
abbrev pub no_note : PlainNote
no_note = record {
  room = pos 0;
  n = pos 0;
  act = pos 0;
  card = None;
  first_code = pos 0;
  second_code = pos 0;
  day = pos 0;
  second = pos 0;
}

more_by : (b : Bool) (plain : PlainNote) (plain_rows : List PlainNote) (before : List (ℕ × NoteRun)) (r : ℕ)
    → (number_of plain.room == r) ≡ b → NoteRunsOf before plain_rows
    → cond b (note_run_of (number_of plain.n ∷ numbers_at (map note_entry plain_rows) (number_of plain.room)))
    (at_number before r)
    ≡ note_run_of (when b (λ numbers. number_of plain.n ∷ numbers) (numbers_at (map note_entry plain_rows) r))
more_by true plain plain_rows before r e is = ap (λ q. note_run_of
    (number_of plain.n ∷ numbers_at (map note_entry plain_rows) q)) (eq_from (number_of plain.room) r e)
more_by false plain plain_rows before r e is = is r

-- a note more, before the others
pub runs_more : (before after : List (ℕ × NoteRun)) (plain : PlainNote) (plain_rows : List PlainNote)
    → NoteRunsOf before plain_rows
    → ((r : ℕ) (ns : List ℕ) → at_number before (number_of plain.room) ≡ note_run_of ns
    → at_number after r ≡ cond (r == number_of plain.room) (note_run_of (number_of plain.n ∷ ns)) (at_number before r))
    → NoteRunsOf after (plain ∷ plain_rows)
runs_more before after plain plain_rows is put r =
    let ns = numbers_at (map note_entry plain_rows) (number_of plain.room) in
    put r ns (is (number_of plain.room))
    ∙ ap (λ b. cond b (note_run_of (number_of plain.n ∷ ns)) (at_number before r)) (eq_turned r (number_of plain.room))
    ∙ more_by (number_of plain.room == r) plain plain_rows before r refl is

and_parts : (a b : Bool) → (a && b) ≡ true → (a ≡ true) × (b ≡ true)
and_parts true b h = (refl, h)
and_parts false b h = absurd (let w : ◌≡◌ {A = Bool} false true = h in cc)

-- numbers that go up from n end with the n plus their number, less 1
last_counted : (n : ℕ) (ns : List ℕ) → count_up (n + 1) ns ≡ true → last_of (n ∷ ns) ≡ n + length ns
last_counted n [] h = let e : n ≡ n + 0 = omega arith in e
last_counted n (m ∷ ns) h =
    let p = and_parts (m == n + 1) (count_up (n + 1 + 1) ns) h in
    let is : m ≡ n + 1 = eq_from m (n + 1) p.0 in
    let e : n + 1 + length ns ≡ n + suc (length ns) = omega arith in
    ap (λ q. last_of (q ∷ ns)) is ∙ last_counted (n + 1) ns p.1 ∙ e

due_by : (b d : Bool) (n : ℕ) (ns : List ℕ) (m : ℕ) → (n == 1) ≡ b → count_up (n + 1) ns ≡ d
    → ((b && count_up (1 + 1) ns) && (suc (length ns) == m)) ≡ ((d && b) && (last_of (n ∷ ns) == m))
due_by true true n ns m e f =
    let is : n ≡ 1 = eq_from n 1 e in
    let up : count_up (1 + 1) ns ≡ true = ap (λ q. count_up (q + 1) ns) (sym is) ∙ f in
    let end : suc (length ns) ≡ last_of (n ∷ ns) = let g : suc (length ns) ≡ n + length ns = omega (arith, is) in
    g ∙ sym (last_counted n ns f) in
    ap (λ z. z && (suc (length ns) == m)) up ∙ ap (λ z. z == m) end
due_by true false n ns m e f =
    ap (λ z. z && (suc (length ns) == m)) (ap (λ q. count_up (q + 1) ns) (sym (eq_from n 1 e)) ∙ f)
due_by false true n ns m e f = refl
due_by false false n ns m e f = refl

pub due_as_counted : (ns : List ℕ) (m : ℕ)
    → (count_up 1 ns && (length ns == m))
    ≡ said_of (note_run_of ns) (m == 0) (λ run. run.counted && (run.first == 1) && (run.last == m))
due_as_counted [] m = eq_turned 0 m
due_as_counted (n ∷ ns) m =
    due_by (n == 1) (count_up (n + 1) ns) n ns m refl refl
    ∙ sym (ap (λ z. (z && count_up (n + 1) ns) && (n == 1) && (last_of (n ∷ ns) == m)) (eq_self n))

-- the numbers of a room's notes are those of the table
numbers_joined : (fits : FitEntries) (es : List ((ℕ × ℕ) × Note)) (r : ℕ)
    → numbers_at (map (under_fit fits) es) r ≡ numbers_at es r
numbers_joined fits [] r = refl
numbers_joined fits (e ∷ es) r = ap (λ ns. when (e.0.0 == r) (λ numbers. e.0.1 ∷ numbers) ns) (numbers_joined fits es r)

-- the rule on the numbers of all rooms
pub counts_as_due : (s : Stored) (runs : List (ℕ × NoteRun)) → NoteRunsOf runs s.note.items
    → notes_counted (rows_of s) ≡ list_all (counted_as_due runs) s.room.items
counts_as_due s runs is =
    all_rooms (λ (e : ℕ × RoomRow). count_up 1 (numbers_at (rows_of s).notes e.1.room)
    && (length (numbers_at (rows_of s).notes e.1.room) == e.1.notes)) (fits_of s) s.room.items
    ∙ all_alike _ (counted_as_due runs) s.room.items (λ plain.
    ap (λ ns. count_up 1 ns && (length ns == number_of plain.notes))
    (numbers_joined (fits_of s) (map note_entry s.note.items) (number_of plain.room))
    ∙ due_as_counted (numbers_at (map note_entry s.note.items) (number_of plain.room)) (number_of plain.notes)
    ∙ ap (λ o. said_of o (number_of plain.notes == 0)
    (λ run. run.counted && (run.first == 1) && (run.last == number_of plain.notes))) (sym (is (number_of plain.room))))

swap_last : (o c n f t : Bool) → (c && f) ≡ t → (((o && c) && n) && f) ≡ ((o && t) && n)
swap_last true true n true t e = let g : n && true ≡ n && true = refl in and_true_last n ∙ ap (λ z. z && n) e
  where
    and_true_last : (n : Bool) → (n && true) ≡ n
    and_true_last true = refl
    and_true_last false = refl
swap_last true true n false t e = and_false_last n ∙ ap (λ z. z && n) e
  where
    and_false_last : (n : Bool) → (n && false) ≡ false
    and_false_last true = refl
    and_false_last false = refl
swap_last true false n f t e = ap (λ z. z && n) e
swap_last false c n f t e = refl

plain_fits : (c a t x d s : Bool) → a ≡ true → (c && ((((a && t) && x) && d) && s)) ≡ ((((c && t) && x) && d) && s)
plain_fits true a t x d s e = ap (λ z. (((z && t) && x) && d) && s) e
plain_fits false a t x d s e = refl

-- the notes, joined with their fits
pub notes_are : (fits : FitEntries) (ls : List PlainNote)
    → map (under_fit fits) (map note_entry ls) ≡ map (λ l. (note_key l, joined_note fits l)) ls
notes_are fits [] = refl
notes_are fits (l ∷ ls) = ap (λ es. (note_key l, joined_note fits l) ∷ es) (notes_are fits ls)

-- a rule of all notes, joined with their fits
pub all_notes : (t : (ℕ × ℕ) × Note → Bool) (fits : FitEntries) (ls : List PlainNote)
    → list_all t (map (under_fit fits) (map note_entry ls)) ≡ list_all (λ l. t (note_key l, joined_note fits l)) ls
all_notes t fits ls = ap (list_all t) (notes_are fits ls) ∙ all_mapped t (λ l. (note_key l, joined_note fits l)) ls

-- the rules of notes are a test of each note, and one of each room
pub notes_together : (s : Stored) → note_holds s ≡ (are_in_order pair_cmp (map note_key s.note.items)
    && list_all (plain_note_fits (rows_of s)) s.note.items && notes_counted (rows_of s))
notes_together s =
    let plain_rows = s.note.items in
    let rows = rows_of s in
    let fits = fits_of s in
    ap (λ ks. are_in_order pair_cmp ks && list_all are_note_columns plain_rows && notes_counted rows && notes_fit rows)
    (ap keys_of (notes_are fits plain_rows) ∙ pair_keys_mapped plain_rows)
    ∙ swap_last (are_in_order pair_cmp (map note_key plain_rows)) (list_all are_note_columns plain_rows)
    (notes_counted rows) (notes_fit rows) (list_all (plain_note_fits rows) plain_rows)
    (all_and are_note_columns (λ plain. note_fits rows (note_key plain, joined_note fits plain)) plain_rows
    (notes_fit rows)
    (all_notes (note_fits rows) fits plain_rows)
    ∙ all_alike _ (plain_note_fits rows) plain_rows (λ plain.
    plain_fits (are_note_columns plain) (number_of plain.room == number_of plain.room)
    (is_some (at_number rows.rooms (number_of plain.room)))
    (act_fits rows (number_of plain.room) (note_row plain).act) (is_day (number_of plain.day))
    (nat_le (number_of plain.second) 86399) (eq_self (number_of plain.room))))
  where
    pair_keys_mapped : (ls : List PlainNote) → keys_of (map (λ l. (note_key l, joined_note (fits_of s) l)) ls)
        ≡ map note_key ls
    pair_keys_mapped [] = refl
    pair_keys_mapped (l ∷ ls) = ap (λ ks. note_key l ∷ ks) (pair_keys_mapped ls)
