-- What a change that fits is to the statements that make it.
use Rattle.std.proofs.Common.{ℕ, suc, ◌≡◌, ◌≤◌, ◌+◌, ◌-◌, Bool, true, false, cond, Option, Some, None, IsSome, refl, ap}
use Rattle.std.proofs.Common.{sym, List, [], ◌∷◌, length, filter, ◌∙◌, subst, arith, ◌==◌, ◌&&◌, ◌||◌, not, nat_le}
use Rattle.std.proofs.Common.{nat_lt}
use Rattle.std.proofs.Common.{nat_cmp, is_eq, Ordering, Less, Equal, Greater, if◌then◌else◌, option_map, ◌<◌, ◌^◌}
use Rattle.hotel_model.specs.declared.rows.RoomRow.{RoomRow}
use Rattle.hotel_model.specs.declared.rows.FitRow.{FitRow}
use Rattle.hotel_model.specs.declared.change.Change.{Change}
use Rattle.hotel_model.specs.declared.change.Change.TheVariants as change
use Rattle.hotel_model.specs.declared.change.InsideMove.{InsideMove}
use Rattle.hotel_model.specs.Rows.{notes_at}
use Rattle.hotel_model.specs.Refits.{fit_row}
use Rattle.hotel_model.specs.Refinement.Change.{room_changed, new_row, codes_of, notes_in, before_in}
use Rattle.hotel_model.specs.Refinement.Fits.{Fits}
use Rattle.hotel_books.proofs.Names.{nat_tests, match_ordering, insert_entry, is_at, lookup, list_all, Note, Rows}
use Rattle.hotel_books.proofs.Names.{said_of, when, pair_cmp, at_number, fit_at, fits_at, room_at, of_fit, note_at}
use Rattle.hotel_books.proofs.Names.{note_numbered, made, is_room, start, present_fit, IsSound, is_of_fit}
use Rattle.hotel_model.proofs.OfTables.Tests.{and_true, eq_from, eq_self, le_from, not_both}
use Rattle.hotel_model.proofs.OfTables.RowTests.{both, all_weaker, where_so, found_passes_by}
use Rattle.hotel_model.proofs.OfTables.Pairs.{pair_cmp_total, same_pair}
use Rattle.hotel_books.proofs.OfTables.MapEntries.{missed, at_is, at_self, pair_is}
use Rattle.hotel_model.proofs.OfTables.TableKeys.{row_added}
use Rattle.hotel_model.proofs.OfTables.Inserted.{found_inserted}
use Rattle.hotel_model.proofs.OfTables.AtRoom.{there_at}
use Rattle.hotel_model.proofs.OfTables.FitLists.{FitsFor, last_is_at}
use Rattle.hotel_model.proofs.Starts.StartFits.{fits_said, fits_kept_at_start}
use Rattle.hotel_model.proofs.Starts.StartNotes.{numbers_within_at_start}
use Rattle.hotel_model.proofs.Starts.StartNotesOfFits.{notes_for_at_start, note_of_fit_found}
use Rattle.hotel_model.proofs.Starts.StartRows.{notes_counted}
use Rattle.hotel_model.proofs.Invariants.FitsKept.{fit_found}
use Rattle.hotel_rows.proofs.OfJoined.{number_of_last}
use Rattle.hotel_rows.specs.Joined.{FitEntries}
use Rattle.hotel_statements.specs.declared.look_ups.RoomCounts.{RoomCounts}
use Rattle.hotel_statements.specs.Steps.{is_below, is_up_to, counts_to, IsNextFit, IsNewRoom, IsRefit, IsNewNote}
use Rattle.hotel_statements.specs.Steps.{IsNumbered}
use Rattle.hotel_statements.specs.LookUps.{known_by_room}
use Rattle.hotel_tables.specs.Applied.{MayMake, can_count, known_by_fit, told_for, known_after, known_for}

-- ---- tables before a row was put in

-- the keys of all entries pass a test
abbrev AllKeys : {X : Type 0} → (ℕ × ℕ → Bool) → List ((ℕ × ℕ) × X) → Type 0
AllKeys {X} t es = list_all (λ (x : (ℕ × ℕ) × X). t x.0) es ≡ true

before_by : {X : Type 0} (t : ℕ × ℕ → Bool) (o : Ordering) (e : (ℕ × ℕ) × X) (es : List ((ℕ × ℕ) × X)) (k : ℕ × ℕ)
    (v : X) → AllKeys t (match_ordering o ((k, v) ∷ e ∷ es) ((e.0, v) ∷ es) (e ∷ insert_entry pair_cmp es k v))
    → (AllKeys t (insert_entry pair_cmp es k v) → AllKeys t es) → AllKeys t (e ∷ es)
before_by {X} t Less e es k v all ih = (and_true (t k) (list_all (λ (x : (ℕ × ℕ) × X). t x.0) (e ∷ es)) all).1
before_by t Equal e es k v all ih = all
before_by {X} t Greater e es k v all ih =
    let p = and_true (t e.0) (list_all (λ (x : (ℕ × ℕ) × X). t x.0) (insert_entry pair_cmp es k v)) all in
    both (t e.0) _ p.0 (ih p.1)

-- keys that pass a test passed it before one was put in
passed_before : {X : Type 0} (t : ℕ × ℕ → Bool) (es : List ((ℕ × ℕ) × X)) (k : ℕ × ℕ) (v : X)
    → AllKeys t (insert_entry pair_cmp es k v) → AllKeys t es
passed_before t [] k v all = refl
passed_before t (e ∷ es) k v all = before_by t (pair_cmp k e.0) e es k v all (passed_before t es k v)

-- numbers of a room up to one that isn't there are below it
below_missing : {X : Type 0} (room n : ℕ) (es : List ((ℕ × ℕ) × X)) → list_all (is_up_to room n) es ≡ true
    → lookup (is_at (pair_cmp (room, n))) es ≡ None → list_all (is_below room n) es ≡ true
below_missing room n [] all none = refl
below_missing room n (e ∷ es) all none =
    let p = and_true (is_up_to room n e) (list_all (is_up_to room n) es) all in
    let m = missed (is_at (pair_cmp (room, n)) e.0) e.1 (lookup (is_at (pair_cmp (room, n))) es) none in
    both _ _ (by (e.0.0 == room) p.0 (sym (pair_is room n e.0) ∙ m.0)) (below_missing room n es p.1 m.1)
  where
    below : (k : ℕ) → nat_le k n ≡ true → (k == n) ≡ false → nat_lt k n ≡ true
    below k l apart = grind (arith, nat_tests)

    by : (b : Bool) → (not b || nat_le e.0.1 n) ≡ true → (b && (e.0.1 == n)) ≡ false → (not b || nat_lt e.0.1 n) ≡ true
    by true l apart = below e.0.1 l apart
    by false l apart = refl

-- the room has one fit more
abbrev HasOneMore : ℕ → FitEntries → FitEntries → Type 0
HasOneMore room es later = length (fits_at later room) ≡ suc (length (fits_at es room))

longer_by : (o : Ordering) (e : (ℕ × ℕ) × FitRow) (es : FitEntries) (room n : ℕ) (v : FitRow)
    → pair_cmp (room, n) e.0 ≡ o → lookup (is_at (pair_cmp (room, n))) (e ∷ es) ≡ None
    → HasOneMore room es (insert_entry pair_cmp es (room, n) v)
    → HasOneMore room (e ∷ es)
    (match_ordering o (((room, n), v) ∷ e ∷ es) ((e.0, v) ∷ es) (e ∷ insert_entry pair_cmp es (room, n) v))
longer_by Less e es room n v c none ih =
    ap (λ b. length (when b (λ fits. v ∷ fits) (fits_at (e ∷ es) room))) (eq_self room)
longer_by Equal e es room n v c none ih =
    let m = missed (is_at (pair_cmp (room, n)) e.0) e.1 (lookup (is_at (pair_cmp (room, n))) es) none in
    not_both (is_at (pair_cmp (room, n)) e.0) (ap is_eq c) m.0
longer_by Greater e es room n v c none ih =
    by (e.0.0 == room) (fits_at (insert_entry pair_cmp es (room, n) v) room) (fits_at es room) ih
  where
    by : (b : Bool) (fs gs : List FitRow) → length fs ≡ suc (length gs)
        → length (when b (λ fits. e.1 ∷ fits) fs) ≡ suc (length (when b (λ fits. e.1 ∷ fits) gs))
    by true fs gs h = ap suc h
    by false fs gs h = h

one_longer : (es : FitEntries) (room n : ℕ) (v : FitRow) → lookup (is_at (pair_cmp (room, n))) es ≡ None
    → HasOneMore room es (insert_entry pair_cmp es (room, n) v)
one_longer [] room n v none = ap (λ b. length (when b (λ fits. v ∷ fits) [])) (eq_self room)
one_longer (e ∷ es) room n v none =
    let m = missed (is_at (pair_cmp (room, n)) e.0) e.1 (lookup (is_at (pair_cmp (room, n))) es) none in
    longer_by (pair_cmp (room, n) e.0) e es room n v refl none (one_longer es room n v m.1)

none_of : {X : Type 0} (xs : List X) → 1 ≡ suc (length xs) → xs ≡ []
none_of [] e = refl
none_of (x ∷ xs) e = absurd (omega (arith, e))

-- the row of a room that was changed
changed_there : (room : ℕ) (f : RoomRow → RoomRow) (es : List (ℕ × RoomRow)) (row : RoomRow)
    → at_number es room ≡ Some row → at_number (room_changed room f es) room ≡ Some (f row)
changed_there room f [] row h = absurd (let w : ◌≡◌ {A = Option RoomRow} None (Some row) = h in cc)
changed_there room f (e ∷ es) row h =
    by (e.0 == room) (at_is room e.0) (ap (λ b. cond b (Some e.1) (at_number es room)) (sym (at_is room e.0)) ∙ h)
    (changed_there room f es row)
  where
    by : (b : Bool) → is_at (nat_cmp room) e.0 ≡ b → cond b (Some e.1) (at_number es room) ≡ Some row
        → (at_number es room ≡ Some row → at_number (room_changed room f es) room ≡ Some (f row))
        → at_number (cond b ((e.0, f e.1) ∷ es) (e ∷ room_changed room f es)) room ≡ Some (f row)
    by true at g ih =
        ap (λ b. cond b (Some (f e.1)) (at_number es room)) at ∙ ap (λ o. said_of o None (λ x. Some (f x))) g
    by false at g ih = ap (λ b. cond b (Some e.1) (at_number (room_changed room f es) room)) at ∙ ih g

-- ---- a room of sound rows

-- the fit is of its key, and its room is there
abbrev of_key : Rows → (ℕ × ℕ) × FitRow → Bool
of_key t e = (e.1.room == e.0.0) && (e.1.fit == e.0.1) && is_room (start t) e.0.0

module _ (t : Rows) (s : IsSound t) (room : ℕ) (row : RoomRow) (there : at_number t.rooms room ≡ Some row) where
  -- no fit comes after the one of its row
  fits_up_to : list_all (is_up_to room row.fit) t.fits ≡ true
  fits_up_to =
      all_weaker (λ (e : (ℕ × ℕ) × FitRow). of_key t e && nat_le e.0.1 (present_fit (start t) e.0.0))
      (is_up_to room row.fit) (λ e a.
      let low = (and_true (of_key t e) (nat_le e.0.1 (present_fit (start t) e.0.0)) a).1 in
      where_so (e.0.0 == room) (nat_le e.0.1 row.fit)
      (λ here. ap (nat_le e.0.1) (sym (present e.0.0 (eq_from e.0.0 room here))) ∙ low))
      t.fits (fits_kept_at_start t s)
    where
      present : (r : ℕ) → r ≡ room → present_fit (start t) r ≡ row.fit
      present r same = ap (present_fit (start t)) same ∙ ap (λ o. said_of o 0 (λ (x : RoomRow). x.fit)) there

  -- no note has a number above how many it has
  notes_up_to : list_all (is_up_to room row.notes) t.notes ≡ true
  notes_up_to =
      all_weaker (λ (e : (ℕ × ℕ) × Note). nat_le e.0.1 (length (notes_at t.notes e.0.0))) (is_up_to room row.notes)
      (λ e low. where_so (e.0.0 == room) (nat_le e.0.1 row.notes)
      (λ here. ap (nat_le e.0.1) (sym (many e.0.0 (eq_from e.0.0 room here))) ∙ low))
      t.notes (numbers_within_at_start t s)
    where
      many : (r : ℕ) → r ≡ room → length (notes_at t.notes r) ≡ row.notes
      many r same = ap (λ z. length (notes_at t.notes z)) same ∙ notes_counted t s room row there

-- ---- a new room, and a new lock

new_room : (room : ℕ) (kind : List ℕ) (code : ℕ) (rows : Rows) → Fits (change.Room room kind code) rows
    → IsNewRoom room rows
new_room room kind code rows fits =
    let t = made (change.Room room kind code) rows in
    let first = fit_row room 1 0 0 in
    let there : at_number t.rooms room ≡ Some (new_row room kind) = row_added rows.rooms room (new_row room kind) in
    let one : length (fits_at t.fits room) ≡ 1 = (fits_said t fits.1 room (new_row room kind) there).many in
    let all = fits_up_to t fits.1 room (new_row room kind) there in
    let low = passed_before (λ k. not (k.0 == room) || nat_le k.1 1) rows.fits (room, 1) first all in
    let later = below_missing room 1 rows.fits low fits.0.3 in
    record {
      fits = none_of (fits_at rows.fits room) (sym one ∙ one_longer rows.fits room 1 first fits.0.3);
      next = record { later = later; noted = notes_up_to t fits.1 room (new_row room kind) there };
    }

-- what a refit makes of a room's row
abbrev pub refitted : ℕ → RoomRow → RoomRow
refitted fit row =
    record row { lock_place = row.codes; codes = row.codes + 1; secured = false; fit = fit; before = row.notes }

next_fit : (room code fit : ℕ) (rows : Rows) (row : RoomRow) → room_at rows room ≡ Some row
    → Fits (change.Refit room code fit) rows → IsNextFit (fit_row room fit row.codes row.notes) rows
next_fit room code fit rows row here fits =
    let t = made (change.Refit room code fit) rows in
    let new = fit_row room fit (codes_of rows room) (notes_in rows room) in
    let there : at_number t.rooms room ≡ Some (refitted fit row) =
    changed_there room (refitted fit) rows.rooms row here in
    let all = fits_up_to t fits.1 room (refitted fit row) there in
    let low = passed_before (λ k. not (k.0 == room) || nat_le k.1 fit) rows.fits (room, fit) new all in
    record {
      later = below_missing room fit rows.fits low fits.0.3;
      noted = notes_up_to t fits.1 room (refitted fit row) there;
    }

-- ---- a note that is taken

-- a note is of a fit under which it is found
found_under : (fit : ℕ) (note : Note) (o : Option Note) → IsSome o → of_fit fit (Some note) ≡ o → note.fit ≡ fit
found_under fit note o some e = by (note.fit == fit) refl (subst IsSome (sym e) some)
  where
    by : (b : Bool) → (note.fit == fit) ≡ b → IsSome (cond b (Some note) None) → note.fit ≡ fit
    by true t h = eq_from note.fit fit t
    by false t h = cc

some_is : {X : Type 0} (o : Option X) (x : X) → o ≡ Some x → IsSome o
some_is o x e = subst IsSome (sym e) refl

module _ (note : Note) (lock_place : ℕ) (secured : Bool) (insides : InsideMove) (rows : Rows) (row : RoomRow)
    (here : room_at rows note.room ≡ Some row) (fits : Fits (change.Noted note lock_place secured insides) rows) where
  abbrev after : Rows
  after = made (change.Noted note lock_place secured insides) rows

  abbrev number : ℕ
  number = row.before + note.count

  -- what the note makes of the room's row
  abbrev noted_row : RoomRow → RoomRow
  noted_row row = record row { lock_place = lock_place; secured = secured; notes = row.before + note.count }

  number_is : before_in rows note.room + note.count ≡ number
  number_is = ap (λ o. said_of o 0 (λ (x : RoomRow). x.before) + note.count) here

  there : at_number after.rooms note.room ≡ Some (noted_row row)
  there = changed_there note.room noted_row rows.rooms row here

  said : FitsFor (fits_at rows.fits note.room) row.fit row.before lock_place number
  said = fits_said after fits.1 note.room (noted_row row) there

  noted : note_numbered after note.room number ≡ Some note
  noted = ap (note_numbered after note.room) (sym number_is) ∙ put (note.room, before_in rows note.room + note.count)
    where
      put : (k : ℕ × ℕ) → lookup (is_at (pair_cmp k)) (insert_entry pair_cmp rows.notes k note) ≡ Some note
      put k =
          found_inserted pair_cmp_total rows.notes k note k
          ∙ ap (λ b. cond b (Some note) (lookup (is_at (pair_cmp k)) rows.notes)) (at_self pair_cmp_total k)

  counted_from : 1 ≤ note.count
  counted_from =
      let of_fit_too = said_of (fit_at after note.room note.fit) false (λ f. number == f.before + note.count) in
      let of_next = said_of (fit_at after note.room (note.fit + 1)) true (λ next. nat_le number next.before) in
      let a =
      found_passes_by pair_cmp same_pair (is_of_fit after) after.notes (note.room, number) note fits.1.note_of_fit
      noted in
      let b = and_true (nat_le 1 note.count && of_fit_too) of_next a in
      le_from 1 note.count (and_true (nat_le 1 note.count) of_fit_too b.0).0

  -- the present fit is found by its number
  present : fit_at after note.room row.fit ≡ Some said.last.0
  present =
      let fs = fits_at rows.fits note.room in
      let least = said.least in
      let many = said.many in
      let at : (length fs - 1) + 1 ≡ row.fit = omega arith in
      ap (fit_at after note.room) (sym at)
      ∙ fit_found (start after) fits.1 note.room (length fs - 1) said.numbers ∙ last_is_at fs ∙ said.last.1

  -- the notes of the present fit, with this one
  abbrev of_last : List Note
  of_last = filter (λ (n : Note). n.fit == row.fit) (notes_at after.notes note.room)

  many_of_last : row.before + length of_last ≡ number
  many_of_last =
      subst (λ o. said_of o 0 (λ (x : RoomRow). x.before)
      + length (filter (λ (n : Note). n.fit == said_of o 0 (λ (x : RoomRow). x.fit)) (notes_at after.notes note.room))
      ≡ length (notes_at after.notes note.room)) there (notes_for_at_start after fits.1 note.room).1
      ∙ notes_counted after fits.1 note.room (noted_row row) there

  is_of_present : note.fit ≡ row.fit
  is_of_present =
      let least = counted_from in
      let many = many_of_last in
      let found = there_at (note.count - 1) of_last (omega arith) in
      let same : said.last.0.before + note.count ≡ number = ap (λ z. z + note.count) said.last.3 in
      let at : note_at after note.room row.fit note.count ≡ of_fit row.fit (Some note) =
      ap (λ o. said_of o None (λ f. of_fit row.fit (note_numbered after note.room (f.before + note.count)))) present
      ∙ ap (λ z. of_fit row.fit (note_numbered after note.room z)) same ∙ ap (of_fit row.fit) noted in
      found_under row.fit note _ (some_is _ found.0 found.1)
      (sym at ∙ note_of_fit_found after fits.1 note.room (noted_row row) there row.fit note.count least)

  -- its fit is found, and tells how many notes the room had before
  fit_known : (f : FitRow) × (fit_at rows note.room note.fit ≡ Some f) × (f.before ≡ before_in rows note.room)
  fit_known = (
    said.last.0,
    ap (fit_at rows note.room) is_of_present ∙ present,
    said.last.3 ∙ sym (ap (λ o. said_of o 0 (λ (x : RoomRow). x.before)) here),
  )

  -- the note has its fit and its count by its number
  new_note : IsNewNote note number rows
  new_note =
      let least = counted_from in
      let before = said.last.3 in
      let last = number_of_last (fits_at rows.fits note.room) said.last.0 number said.last.1 (omega arith) in
      let fit : said.last.0.fit ≡ note.fit = said.last.2 ∙ sym is_of_present in
      let same : number ≡ said.last.0.before + note.count = ap (λ z. z + note.count) (sym before) in
      let counts : counts_to note number said.last.0 ≡ true =
      both _ _ (ap (λ z. z == note.fit) fit ∙ eq_self note.fit)
      (ap (λ z. z == said.last.0.before + note.count) same ∙ eq_self _) in
      record {
        new = ap (note_numbered rows note.room) (sym number_is) ∙ fits.0.1;
        counted = ap (λ o. said_of o false (counts_to note number)) last ∙ counts;
      }

-- ---- what is known for a change

-- what is known is what a row tells
known_row : {X : Type 0} (its_change : Change) (tells : X → RoomCounts) (o : Option X) (known : RoomCounts)
    → known_after its_change (option_map tells o) ≡ Some known → (x : X) × (o ≡ Some x) × (tells x ≡ known)
known_row its_change tells (Some x) known e = (x, refl, by (can_count its_change (tells x)) e)
  where
    by : (b : Bool) → (if b then Some (tells x) else None) ≡ Some known → tells x ≡ known
    by true e = cc
    by false e = cc
known_row its_change tells None known e = absurd (let w : ◌≡◌ {A = Option RoomCounts} None (Some known) = e in cc)

-- a row that is there tells it
row_known : {X : Type 0} (its_change : Change) (tells : X → RoomCounts) (o : Option X) (x : X) → o ≡ Some x
    → can_count its_change (tells x) ≡ true → IsSome (known_after its_change (option_map tells o))
row_known its_change tells o x there can =
    subst (λ found. IsSome (known_after its_change (option_map tells found))) (sym there)
    (subst (λ b. IsSome (if b then Some (tells x) else None)) (sym can) refl)

row_there : {X : Type 0} (o : Option X) → IsSome o → (x : X) × (o ≡ Some x)
row_there (Some x) some = (x, refl)
row_there None some = absurd (let w : false ≡ true = some in cc)

below : (k n : ℕ) → k < n → nat_lt k n ≡ true
below k n low = grind (arith, nat_tests)

-- the room of a change that adds a code is known
code_known : (its_change : Change) (rows : Rows) (room : ℕ)
    → ((k : RoomCounts) → can_count its_change k ≡ nat_lt k.codes (2 ^ 32 - 1)) → IsSome (room_at rows room)
    → codes_of rows room < 2 ^ 32 - 1 → IsSome (known_after its_change (option_map known_by_room (room_at rows room)))
code_known its_change rows room can some few =
    let p = row_there (room_at rows room) some in
    row_known its_change known_by_room (room_at rows room) p.0 p.1
    (can (known_by_room p.0) ∙ below p.0.codes (2 ^ 32 - 1)
    (subst (λ o. said_of o 0 (λ (x : RoomRow). x.codes) < 2 ^ 32 - 1) p.1 few))

-- what a change that fits needs is known
is_known : (its_change : Change) (rows : Rows) → Fits its_change rows → IsSome (known_for its_change rows)
is_known (change.Issue card room leaves) rows fits =
    code_known (change.Issue card room leaves) rows room (λ k. refl) fits.0.0 fits.0.1
is_known (change.Refit room code fit) rows fits =
    code_known (change.Refit room code fit) rows room (λ k. refl) fits.0.0 fits.0.1
is_known (change.Noted note lock_place secured insides) rows fits =
    let p = row_there (room_at rows note.room) fits.0.0 in
    let f = fit_known note lock_place secured insides rows p.0 p.1 fits in
    row_known (change.Noted note lock_place secured insides) known_by_fit (fit_at rows note.room note.fit) f.0 f.1
    (below (f.0.before + note.count) (2 ^ 32) (subst (λ n. n + note.count < 2 ^ 32) (sym f.2) fits.0.2))
is_known _ rows fits = refl

pub is_known_by : (its_change : Change) (rows : Rows) → Fits its_change rows → (o : Option RoomCounts)
    → told_for its_change rows ≡ o → IsSome (known_after its_change o)
is_known_by its_change rows fits o e = subst (λ found. IsSome (known_after its_change found)) e
    (is_known its_change rows fits)

-- the statements of a change that fits have what they ask of the rows
pub may_make : (its_change : Change) (known : RoomCounts) (rows : Rows) → Fits its_change rows
    → known_for its_change rows ≡ Some known → MayMake its_change known rows
may_make (change.Kind kind) known rows fits e = fits.0
may_make (change.Room room kind code) known rows fits e = new_room room kind code rows fits
may_make (change.Issue card room leaves) known rows fits e =
    let p = known_row (change.Issue card room leaves) known_by_room (room_at rows room) known e in
    ap (λ o. said_of o 0 (λ (x : RoomRow). x.codes)) p.1 ∙ ap (λ (k : RoomCounts). k.codes) p.2
may_make (change.Refit room code fit) known rows fits e =
    let p = known_row (change.Refit room code fit) known_by_room (room_at rows room) known e in
    subst (λ (k : RoomCounts). IsRefit room fit k.codes k.notes rows) p.2
    (record {
      codes_are = ap (λ o. said_of o 0 (λ (x : RoomRow). x.codes)) p.1;
      notes_are = ap (λ o. said_of o 0 (λ (x : RoomRow). x.notes)) p.1;
      next = next_fit room code fit rows p.0 p.1 fits;
    })
may_make (change.Noted note lock_place secured insides) known rows fits e =
    let p = row_there (room_at rows note.room) fits.0.0 in
    let f = fit_known note lock_place secured insides rows p.0 p.1 fits in
    let k =
    known_row (change.Noted note lock_place secured insides) known_by_fit (fit_at rows note.room note.fit) known e in
    let same : f.0 ≡ k.0 = let w : Some f.0 ≡ Some k.0 = sym f.1 ∙ k.1 in cc in
    let before : before_in rows note.room ≡ known.before =
    sym f.2 ∙ ap (λ (x : FitRow). x.before) same ∙ ap (λ (x : RoomCounts). x.before) k.2 in
    let is = number_is note lock_place secured insides rows p.0 p.1 fits in
    subst (λ n. IsNumbered note n rows) (sym is ∙ ap (λ n. n + note.count) before)
    (record { number_is = is; note_new = new_note note lock_place secured insides rows p.0 p.1 fits })
may_make _ known rows fits e = tt
