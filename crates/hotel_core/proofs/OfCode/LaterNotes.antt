-- Notes after all that a room's row counts of its present lock.
use Rattle.std.proofs.Common.{ℕ, ◌≡◌, ◌≤◌, ◌<◌, ◌-◌, Some, None, length, ap, sym, ◌∙◌, subst, arith, is_some, true}
use Rattle.hotel_books.proofs.Names.{RoomRow, Rows, History, start, notes, notes_of, notes_before, present_fit, rows_of}
use Rattle.hotel_books.proofs.Names.{is_room, Reached, IsSound, room_at, note_at}
use Rattle.hotel_model.proofs.{OfTables.NotesKept.none_past, Lifted.NotesFound.note_found}
use Rattle.hotel_model.proofs.{Lifted.LiftEasy.room_is_there, Invariants.NotesOfFits.notes_for}
use Rattle.hotel_model.proofs.{Starts.StartRows.rows_of_start, Lifted.Whole.its_row}

none_later : (h : History) → Reached h → (room count : ℕ) (row : RoomRow) → 1 ≤ count → row.notes - row.before < count
    → room_at (rows_of h) room ≡ Some row → note_at (rows_of h) room row.fit count ≡ None
none_later h ok room count row least later e =
    let its = (its_row h room row e).1 in
    let n : row.notes ≡ length (notes h room) = ap (λ (r : RoomRow). r.notes) its in
    let b : row.before ≡ notes_before h room = ap (λ (r : RoomRow). r.before) its in
    let f : row.fit ≡ present_fit h room = ap (λ (r : RoomRow). r.fit) its in
    let there : is_room h room ≡ true = sym (room_is_there h room) ∙ ap is_some e in
    let taken = (notes_for h ok room).1 in
    ap (λ z. note_at (rows_of h) room z count) f ∙ note_found h ok room (present_fit h room) count there least
    ∙ none_past (count - 1) (notes_of h room (present_fit h room)) (omega arith)

-- in sound rows no note of the room's present lock is there
pub no_later_note : (rows : Rows) → IsSound rows → (room count : ℕ) (row : RoomRow)
    → 1 ≤ count → row.notes - row.before < count → room_at rows room ≡ Some row → note_at rows room row.fit count ≡ None
no_later_note rows sound room count row least later =
    subst (λ rs. room_at rs room ≡ Some row → note_at rs room row.fit count ≡ None) (rows_of_start rows sound)
    (none_later (start rows) sound room count row least later)
