-- The present locks, off the rows that stand for a history and off the history.
use Rattle.std.proofs.Common.{ℕ, ◌≡◌, ◌≤◌, ◌-◌, ◌==◌, ◌||◌, true, Option, Some, None, List, [], ◌∷◌}
use Rattle.std.proofs.Common.{length, map, filter_map, option_map, drop, if◌then◌else◌, arith, refl, ap, sym, ◌∙◌}
use Rattle.std.specs.List.{last_or}
use Rattle.hotel_nights.specs.Moments.{moment_of}
use Rattle.hotel_model.proofs.Names.{Note, History, Reached, cons_option, is_one_of, is_room, keys_of, nat_tests}
use Rattle.hotel_model.proofs.Names.{note_at, notes, notes_before, notes_of, passed, present_fit, room_row, rooms}
use Rattle.hotel_model.proofs.Names.{rows_of, values_of, fits, fits_at}
use Rattle.hotel_model.proofs.{Invariants.FitsOf.fits_of, Invariants.NotesOfFits.notes_for}
use Rattle.hotel_model.proofs.{Lifted.NotesFound.note_found, OfTables.RowTests.or_later}
use Rattle.hotel_model.proofs.{OfTables.AtRoom.first_in, OfTables.FitLists.few_for, OfTables.FitLists.last_is_at}
use Rattle.hotel_model.proofs.{OfTables.RoomNumbers.room_there, OfTables.Tests.eq_self}
use Rattle.hotel_model.specs.declared.list_rows.LockRow.{LockRow}
use Rattle.hotel_model.specs.Lists.{lock_row, locks}
use Rattle.hotel_model.specs.Refinement.ListsOnRows.{counted_note, is_count, lock_at, lock_row_by, lock_row_on}
use Rattle.hotel_model.specs.Refinement.ListsOnRows.{locks_on}

counts : (n : ℕ) → 1 ≤ n → n ≤ 9999999 → is_count n ≡ true
counts n one few = grind (arith, nat_tests)

-- the note of the last count is the last one
counted_last : (h : History) → Reached h → (r : ℕ) (kind : List ℕ) → is_room h r ≡ true → (its : List Note)
    → its ≡ notes_of h r (present_fit h r) → length its ≤ 9999999
    → counted_note (rows_of h) (room_row h r kind) (length its) ≡ last_or None its
counted_last h ok r kind there [] e few = refl
counted_last h ok r kind there (x ∷ its) e few =
    let n = length (x ∷ its) in
    ap (λ b. if b then note_at (rows_of h) r (present_fit h r) n else None) (counts n (omega arith) few)
    ∙ note_found h ok r (present_fit h r) n there (omega arith)
    ∙ ap (λ ns. first_in (drop (n - 1) ns)) (sym e)
    ∙ last_is_at (x ∷ its)

lock_same : (h : History) → Reached h → (r : ℕ) (kind : List ℕ)
    → is_room h r ≡ true → lock_row_on (rows_of h) (room_row h r kind) ≡ lock_row h r
lock_same h ok r kind there =
    let its = notes_of h r (present_fit h r) in
    let all = (notes_for h ok r).1 in
    let n : length (notes h r) - notes_before h r ≡ length its = omega (arith, all) in
    let most = few_for (fits_at (fits h) r) (present_fit h r) (notes_before h r) (length (passed h r))
    (length (notes h r)) (fits_of h ok r there) in
    let few : length its ≤ 9999999 = omega (arith, all, most) in
    ap (λ c. lock_row_by (rows_of h) (room_row h r kind) c) n
    ∙ ap (λ last. let row : LockRow = record {
      room = r;
      fit = present_fit h r;
      count = length its;
      at = option_map moment_of last;
    } in row) (counted_last h ok r kind there its refl few)

lock_there : (h : History) → Reached h → (r : ℕ) → is_room h r ≡ true → lock_at (rows_of h) r ≡ Some (lock_row h r)
lock_there h ok r there =
    let row = room_there h r there in
    ap (option_map (lock_row_on (rows_of h))) row.2 ∙ ap Some (lock_same h ok r row.0 there)

-- each number makes its row
all_made : {R : Type 0} (f : ℕ → Option R) (g : ℕ → R) (rs : List ℕ)
    → ((r : ℕ) → is_one_of r rs ≡ true → f r ≡ Some (g r)) → filter_map f rs ≡ map g rs
all_made f g [] same = refl
all_made f g (r ∷ rs) same =
    ap (λ o. cons_option o (filter_map f rs)) (same r (ap (λ b. b || is_one_of r rs) (eq_self r)))
    ∙ ap (λ rows. g r ∷ rows) (all_made f g rs (λ s t. same s (or_later (r == s) (is_one_of s rs) t)))

numbers_same : (h : History) (es : List (ℕ × List ℕ))
    → map (λ row. row.room) (values_of (map (λ e. (e.0, room_row h e.0 e.1)) es)) ≡ keys_of es
numbers_same h [] = refl
numbers_same h (e ∷ es) = ap (λ rs. e.0 ∷ rs) (numbers_same h es)

-- the present locks of all rooms
pub locks_same : (h : History) → Reached h → locks_on (rows_of h) ≡ locks h
locks_same h ok =
    ap (filter_map (lock_at (rows_of h))) (numbers_same h (rooms h))
    ∙ all_made (lock_at (rows_of h)) (lock_row h) (keys_of (rooms h)) (lock_there h ok)
