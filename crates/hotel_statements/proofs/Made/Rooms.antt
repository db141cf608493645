-- The steps of a room that is added, of a lock that is replaced and of a note that is taken make the change.
use Rattle.std.proofs.Common.{◌≡◌, ◌+◌, inl, inr, refl, sym, ap, ap₂, ◌∙◌, List, [], ◌∷◌, ℕ, true, false, Bool}
use Rattle.std.proofs.Common.{Some, arith, eqb, is_eq, nat_cmp, Ordering, Less, Equal, Greater}
use Rattle.std.specs.Ordering.{match_ordering}
use Rattle.std.specs.BTreeMap.{insert_entry}
use Rattle.std.proofs.lemmas.Bool.{cases_Bool}
use Rattle.std.proofs.lemmas.Bool.Decides.{nat_tests}
use Rattle.keycard_rules.specs.Note.{Note}
use Rattle.hotel_model.specs.declared.rows.RoomRow.{RoomRow}
use Rattle.hotel_model.specs.declared.change.InsideMove.{InsideMove}
use Rattle.hotel_model.specs.declared.change.Change.TheVariants as change
use Rattle.hotel_model.specs.Words.{said_of, pair_cmp}
use Rattle.hotel_model.specs.Rows.{Rows, at_number}
use Rattle.hotel_model.specs.Refits.{fit_row}
use Rattle.hotel_model.specs.Refinement.Change.{made, moved, new_row, room_changed}
use Rattle.hotel_model.proofs.OfTables.Tests.{eq_self}
use Rattle.hotel_statements.specs.Steps.{IsNewRoom, IsNextFit, IsRefit, IsNumbered, bare_room, room_added, code_added}
use Rattle.hotel_statements.specs.Steps.{fit_added, lock_replaced, note_given}
use Rattle.hotel_statements.proofs.Keys.{is_key}

-- ---- the row of a room

-- the row that was put is the one that is changed
put_changed : (k : ℕ) (f : RoomRow → RoomRow) (row : RoomRow) (es : List (ℕ × RoomRow))
    → room_changed k f (insert_entry nat_cmp es k row) ≡ insert_entry nat_cmp es k (f row)
put_changed k f row [] = rw (eq_self k) refl
put_changed k f row (e ∷ es) = by (nat_cmp k e.0) refl (put_changed k f row es)
  where
    by : (o : Ordering) → nat_cmp k e.0 ≡ o → room_changed k f (insert_entry nat_cmp es k row)
        ≡ insert_entry nat_cmp es k (f row)
        → room_changed k f (match_ordering o ((k, row) ∷ e ∷ es) ((e.0, row) ∷ es) (e ∷ insert_entry nat_cmp es k row))
        ≡ match_ordering o ((k, f row) ∷ e ∷ es) ((e.0, f row) ∷ es) (e ∷ insert_entry nat_cmp es k (f row))
    by Less is more = rw (eq_self k) refl
    by Equal is more = let at : eqb e.0 k ≡ true = grind (arith, nat_tests, is) in rw at refl
    by Greater is more = let other : eqb e.0 k ≡ false = grind (arith, nat_tests, is) in rw other
        (ap (λ rest. e ∷ rest) more)

twice : (k : ℕ) (f g : RoomRow → RoomRow) (es : List (ℕ × RoomRow)) → room_changed k g (room_changed k f es)
    ≡ room_changed k (λ row. g (f row)) es
twice k f g [] = refl
twice k f g (e ∷ es) = elim (cases_Bool (eqb e.0 k)) [
  | inl at ↦ rw at (rw at refl)
  | inr other ↦ rw other (rw other (ap (λ rest. e ∷ rest) (twice k f g es)))
]

pub changed_alike : (k : ℕ) (f g : RoomRow → RoomRow) (es : List (ℕ × RoomRow))
    → ((row : RoomRow) → at_number es k ≡ Some row → f row ≡ g row) → room_changed k f es ≡ room_changed k g es
changed_alike k f g [] same = refl
changed_alike k f g (e ∷ es) same = elim (cases_Bool (eqb e.0 k)) [
  | inl at ↦
      let found : is_eq (nat_cmp k e.0) ≡ true = is_key k e.0 ∙ at in
      let row : f e.1 ≡ g e.1 = same e.1 (rw found refl) in
      rw at (ap (λ (row : RoomRow). (e.0, row) ∷ es) row)
  | inr other ↦
      let lost : is_eq (nat_cmp k e.0) ≡ false = is_key k e.0 ∙ other in
      rw other (ap (λ rest. e ∷ rest) (changed_alike k f g es (λ row is. same row (rw lost is))))
]

-- what is said of the room's row
pub said : (said_by : RoomRow → ℕ) (es : List (ℕ × RoomRow)) (room n : ℕ) (row : RoomRow)
    → said_of (at_number es room) 0 said_by ≡ n → at_number es room ≡ Some row → n ≡ said_by row
said said_by es room n row is there = sym is ∙ ap (λ o. said_of o 0 said_by) there

-- ---- a room that is added

pub room_is : (room : ℕ) (kind : List ℕ) (code : ℕ) (rows : Rows)
    → fit_added (fit_row room 1 0 0) (code_added code (record { room = room; place = 0 })
    (room_added (new_row room kind) rows)) ≡ made (change.Room room kind code) rows
room_is room kind code rows =
    ap (λ rooms. record (made (change.Room room kind code) rows) { rooms = rooms })
    (put_changed room (λ row. record row { fit = 1; before = 0 }) (bare_room (new_row room kind)) rows.rooms)

pub still_next : (room : ℕ) (kind : List ℕ) (code : ℕ) (rows : Rows) → IsNewRoom room rows
    → IsNextFit (fit_row room 1 0 0) (code_added code (record { room = room; place = 0 })
    (room_added (new_row room kind) rows))
still_next room kind code rows new = record { later = new.next.later; noted = new.next.noted }

-- ---- a lock that is replaced

pub refit_is : (room code fit codes notes : ℕ) (rows : Rows) → IsRefit room fit codes notes rows
    → fit_added (fit_row room fit codes notes) (lock_replaced room code codes rows)
    ≡ made (change.Refit room code fit) rows
refit_is room code fit codes notes rows is =
    let after = made (change.Refit room code fit) rows in
    let done = fit_added (fit_row room fit codes notes) (lock_replaced room code codes rows) in
    let moved_on : RoomRow → RoomRow = λ row. record row { lock_place = codes; codes = codes + 1; secured = false } in
    let fitted : RoomRow → RoomRow = λ row. record row { fit = fit; before = notes } in
    let wanted : RoomRow → RoomRow = λ row. record row
    { lock_place = row.codes; codes = row.codes + 1; secured = false; fit = fit; before = row.notes } in
    let rooms = twice room moved_on fitted rows.rooms
    ∙ changed_alike room (λ row. fitted (moved_on row)) wanted rows.rooms (λ row there.
    ap₂ (λ c n. record row { lock_place = c; codes = c + 1; secured = false; fit = fit; before = n })
    (said (λ row. row.codes) rows.rooms room codes row is.codes_are there)
    (said (λ row. row.notes) rows.rooms room notes row is.notes_are there)) in
    ap (λ rooms. record done { rooms = rooms }) rooms
    ∙ ap₂ (λ c n. record after {
      codes = insert_entry nat_cmp rows.codes code (record { room = room; place = c });
      fits = insert_entry pair_cmp rows.fits (room, fit) (fit_row room fit c n);
    })
    (sym is.codes_are) (sym is.notes_are)

pub refit_next : (room code fit codes notes : ℕ) (rows : Rows) → IsRefit room fit codes notes rows
    → IsNextFit (fit_row room fit codes notes) (lock_replaced room code codes rows)
refit_next room code fit codes notes rows is = record { later = is.next.later; noted = is.next.noted }

-- ---- a note that is taken

pub note_is : (note : Note) (number lock_place : ℕ) (secured : Bool) (insides : InsideMove) (rows : Rows)
    → IsNumbered note number rows
    → record (note_given note number lock_place secured rows) { inside = moved insides note.room rows.inside }
    ≡ made (change.Noted note lock_place secured insides) rows
note_is note number lock_place secured insides rows is =
    let after = made (change.Noted note lock_place secured insides) rows in
    let set : RoomRow → RoomRow = λ row. record row { lock_place = lock_place; secured = secured; notes = number } in
    let wanted : RoomRow → RoomRow = λ row. record row
    { lock_place = lock_place; secured = secured; notes = row.before + note.count } in
    let rooms = changed_alike note.room set wanted rows.rooms (λ row there.
    ap (λ n. record row { lock_place = lock_place; secured = secured; notes = n })
    (sym is.number_is ∙ ap (λ o. said_of o 0 (λ row. row.before) + note.count) there)) in
    ap₂ (λ rooms n. record after { rooms = rooms; notes = insert_entry pair_cmp rows.notes (note.room, n) note }) rooms
    (sym is.number_is)
