-- What each INSERT makes of the rows of a desk.
use Rattle.std.proofs.Common.{◌≡◌, ◌+◌, ◌-◌, ◌&&◌, ◌||◌, not, refl, ap, ap₂, sym, subst, ◌∙◌, List, [], ◌∷◌, ◌++◌, ◌/◌}
use Rattle.std.proofs.Common.{length, map, ℕ, ℤ, pos, Bool, Option, None, Some, Ok, inl, inr, true, false, arith, eqb}
use Rattle.std.proofs.Common.{is_eq, nat_cmp}
use Rattle.std.specs.Cmp.Lexicographic.{slice_cmp}
use Rattle.std.specs.List.{AllByRecursion, list_all}
use Rattle.std.specs.Map.{lookup}
use Rattle.std.specs.BTreeMap.{is_at, insert_entry}
use Rattle.std.specs.Str.{bytes_eq}
use Rattle.std.specs.Prelude.{option_map, nat_lt}
use Rattle.std.proofs.lemmas.Bool.Decides.{nat_tests}
use Rattle.hotel_model.proofs.OfTables.Tests.{and_true, eq_from}
use Rattle.hotel_model.proofs.OfTables.Pairs.{pair_is, pair_cmp_total}
use Rattle.std.proofs.lemmas.Bool.{cases_Bool}
use Rattle.std.proofs.lemmas.Cmp.{nat_list_cmp_total}
use Rattle.std.proofs.lemmas.Map.Text.{is_eq-slice_cmp}
use Rattle.sqlite_keyed.proofs.ListLemmas.{all_weaker, none_from_any}
use Rattle.sqlite_value.specs.declared.value.Value.TheVariants.{Null, Text}
use Rattle.sqlite.specs.Order.{Row}
use Rattle.sqlite.specs.Term.{Term}
use Rattle.sqlite.specs.Source.TheVariants.{Values}
use Rattle.sqlite.specs.Command.TheVariants.{Insert}
use Rattle.sqlite.specs.Edit.{edit_of}
use Rattle.sqlite.specs.Rowids.TheVariants.{Chosen}
use Rattle.sqlite.specs.Table.{Table}
use Rattle.sqlite_schema.specs.Rules.{Fits}
use Rattle.sqlite_rules.specs.Edit.{is_taken, are_fresh, next_rowid, put_all}
use Rattle.sqlite.specs.Rows.{Written, Edited}
use Rattle.sqlite.specs.Tree.{Trees, put_row}
use Rattle.sqlite.specs.Listing.{understood}
use Rattle.sqlite.specs.Effect.{value_rows}
use Rattle.sqlite.specs.State.{State, mode_of, ExecutesIn, ExecutesInside}
use Rattle.sqlite.proofs.Callers.{one_step, statement_of}
use Rattle.keycard_rules.specs.declared.card.Card.{Card}
use Rattle.keycard_rules.specs.Note.{Note}
use Rattle.hotel_nights.specs.declared.stay.Stay.{Stay}
use Rattle.hotel_model.specs.declared.rows.RoomRow.{RoomRow}
use Rattle.hotel_model.specs.declared.rows.CodeRow.{CodeRow}
use Rattle.hotel_model.specs.declared.rows.FitRow.{FitRow}
use Rattle.hotel_model.specs.Words.{pair_cmp, said_of}
use Rattle.hotel_model.specs.Rows.{has_kind, fits_at, last_fit}
use Rattle.hotel_model.specs.Stays.{room_of_state}
use Rattle.hotel_statements.specs.Trees.{kind_tree, room_tree, stay_tree, code_tree, card_tree, note_tree, fit_tree}
use Rattle.hotel_statements.specs.Schema.{desk_schema, kind_table, note_table, room_table, stay_table, code_table}
use Rattle.hotel_statements.specs.Schema.{card_table, fit_table}
use Rattle.hotel_statements.specs.Values.{int, maybe_int}
use Rattle.hotel_statements.specs.Columns.{bit_of, state_number, act_number, act_card, act_first, act_second}
use Rattle.hotel_statements.specs.Columns.{kind_columns, kind_of, kind_written, note_columns, note_of, note_written}
use Rattle.hotel_statements.specs.Columns.{room_columns, room_of, room_written, stay_columns, stay_of, stay_written}
use Rattle.hotel_statements.specs.Columns.{code_columns, code_of, code_written, card_columns, card_of, card_written}
use Rattle.hotel_statements.specs.Columns.{fit_columns, fit_of, fit_written}
use Rattle.hotel_rows.specs.Joined.{with_last, with_fit, with_count, under_fit, fit_of_number}
use Rattle.hotel_statements.specs.Tables.{AreFits, IsWrittenAs, by_key, rows_in, fits_in, bare_rooms_in}
use Rattle.hotel_statements.specs.Tables.{bare_notes_in}
use Rattle.hotel_books.specs.Refinement.Finds.{AnyRows}
use Rattle.hotel_statements.specs.Steps.{IsMidWith, IsNewNote, IsNextFit, IsWithoutFit, MovesRows}
use Rattle.hotel_statements.specs.Steps.{bare_room}
use Rattle.hotel_statements.specs.Steps.{counts_to, is_below, kind_added, note_added, fit_added, room_added, code_added}
use Rattle.hotel_statements.specs.Steps.{stay_added, card_added}
use Rattle.hotel_statements.specs.Texts.{insert_kind, insert_note, insert_fit, insert_room, insert_stay, insert_code}
use Rattle.hotel_statements.specs.Texts.{insert_card}
use Rattle.hotel_statements.proofs.Statements.Changes as changes
use Rattle.hotel_statements.proofs.Statements.Terms.{Does}
use Rattle.hotel_statements.proofs.Writing.{went, same_value, fresh_one, cast_null, cast_int, cast_maybe, cast_text}
use Rattle.hotel_statements.proofs.Perm.{same_tie}
use Rattle.hotel_rows.proofs.OfJoined.{joined_at, room_put, note_joined, note_put}
use Rattle.hotel_statements.proofs.Joins.{rooms_fitted, notes_kept, noted_bare}
use Rattle.hotel_statements.proofs.Risen.{rooms_rise, fits_rise, keys_rise}
use Rattle.hotel_statements.proofs.Made.Desk.{Changed, AreRowsOf, changed, steps, rooms_set, stays_set, codes_set}
use Rattle.hotel_statements.proofs.Made.Desk.{cards_set, kinds_set, notes_set, fits_set}
use Rattle.hotel_statements.proofs.Made.Entries.{insert_makes, put_keyed, entry_put, key_put}
use Rattle.hotel_statements.proofs.Keyed.{key_total}
use Rattle.hotel_statements.proofs.Made.Reads.{room_cast, stay_cast, room_stored, room_good, room_reads}
use Rattle.hotel_statements.proofs.Made.Reads.{room_numbered, stay_stored}
use Rattle.hotel_statements.proofs.Made.Reads.{stay_good, stay_reads, stay_numbered, code_stored, code_numbered}
use Rattle.hotel_statements.proofs.Made.Reads.{card_stored, card_numbered, kind_stored, note_stored, note_good}
use Rattle.hotel_statements.proofs.Made.Reads.{note_reads, bare_note, fit_stored}
use Rattle.hotel_statements.proofs.Made.Writes.{at_place, IsOn, wrote}

-- a row was put whose number no row had
pub record Put (tree : ℕ) (row : Row) (old new : State) : Type 0 where
  pub fresh : is_taken (old.now.trees tree) row ≡ false
  pub changes : Changed tree (put_row row (old.now.trees tree)) old new
  -- the trees after it
  pub next : Trees
  pub fits : Fits desk_schema next
  pub next_is : next tree ≡ put_row row (old.now.trees tree)

-- an INSERT of one row, whatever the table is: `source` is what its terms give, and `row` that row as it is stored
pub put : {at width : ℕ} {text : List ℕ} {terms : List Term} (tree : ℕ) (t : Table) (params source row : Row)
    (old new : State) (count : ℕ) → Does text (Insert at (Values terms width))
    → IsOn tree t (statement_of text (understood desk_schema text)) (Insert at (Values terms width)) old params
    → value_rows (params ++ []) width (length terms / width) terms ≡ source ∷ []
    → (edit_of old.now.trees (at_place tree t) [] Chosen 0 (source ∷ [])).news ≡ row ∷ [] → old.now.schema ≡ desk_schema
    → ExecutesIn false text params old new (Ok count) → Put tree row old new
put {at} {width} {text} {terms} tree t params source row old new count does on shown news has h =
    let db = old.now.trees in
    let keys = (mode_of old).keys in
    let table = at_place tree t in
    let done = wrote old new tree t text params (Insert at (Values terms width)) count does (λ w. w) on has h in
    let given = went done.1 in
    let written = went (went given.2).2 in
    let counted = went written.2 in
    let trees : done.0.trees ≡ written.0 =
    ap (λ (it : Written). it.trees) (same_value counted.2) ∙ same_value counted.1 in
    let edit = edit_of db table [] Chosen 0 (source ∷ []) in
    let went_in = subst (λ all. Edited desk_schema keys db (edit_of db table [] Chosen 0 all) (Ok written.0))
    (given.1.1 ∙ shown) written.1 in
    let applied = one_step desk_schema keys db written.0 edit refl went_in in
    let rows = applied.rows ∙ ap (put_all (db tree)) news in
    record {
      fresh = fresh_one _ _ (subst (λ rows. are_fresh (db tree) rows ≡ true) news applied.fresh);
      changes = changed old new written.0 tree (put_row row (db tree))
          (done.2 ∙ ap (λ (s : Trees). record { schema = desk_schema; trees = s }) trees) rows applied.tables;
      next = written.0;
      fits = applied.fits;
      next_is = rows;
    }

-- ---- the tables whose rows have their key for a number

pub code_step : (old new : State) (code : ℕ) (at : CodeRow) (count : ℕ)
    → ExecutesInside 0 insert_code (int code ∷ int at.room ∷ int at.place ∷ []) old new (Ok count)
    → IsMidWith AnyRows old → MovesRows old new (code_added code at)
code_step old new code at count h mid =
    let was = (mid h.1.was_open).0 in
    let row = code_stored code at in
    let did : Put code_tree row old new =
    put code_tree code_table _ row row old new count changes.insert_code (λ _ does. does) refl
    (rw (cast_null, cast_int (pos code), cast_int (pos at.room), cast_int (pos at.place)) refl) was.schema h.0 in
    steps old new (code_added code at) h.1 did.changes (codes_set was.tables (insert_makes code_columns code_of
    code_written code_numbered row code at _ was.tables.code refl refl refl did.fresh))

pub room_step : (old new : State) (row : RoomRow) (count : ℕ)
    → ExecutesInside 0 insert_room (int row.room ∷ Text row.kind ∷ int row.lock_place ∷ int row.codes
    ∷ int (bit_of row.secured) ∷ maybe_int row.party ∷ int row.notes ∷ []) old new (Ok count)
    → IsMidWith (IsWithoutFit row.room) old → MovesRows old new (room_added row)
room_step old new r count h mid =
    let both = mid h.1.was_open in
    let was = both.0 in
    let db = old.now.trees in
    let row = room_stored r in
    let did : Put room_tree row old new =
    put room_tree room_table _ row row old new count changes.insert_room (λ _ does. does) refl
    (rw (cast_int (pos r.room)) (ap (λ (cast : Row). cast ∷ []) (rw (cast_int (pos r.room)) at (room_cast r))))
    was.schema h.0 in
    let set = rooms_set was.tables (insert_makes room_columns room_of room_written room_numbered row r.room
    (bare_room r) _ was.tables.room (room_good r) (room_reads r) refl did.fresh) in
    let joined : map (with_fit (fits_in db)) (insert_entry nat_cmp (bare_rooms_in db) r.room (bare_room r))
    ≡ insert_entry nat_cmp (map (with_fit (fits_in db)) (bare_rooms_in db)) r.room (bare_room r) =
    room_put (fits_in db) (bare_rooms_in db) r.room (bare_room r)
    ∙ ap (λ fs. insert_entry nat_cmp (map (with_fit (fits_in db)) (bare_rooms_in db)) r.room
    (with_last (last_fit fs) (bare_room r))) both.1 in
    steps old new (room_added r) h.1 did.changes (
      set.0,
      set.1
          ∙ ap (λ rooms. record (rows_in db) { rooms = rooms }) joined,
    )

pub stay_step : (old new : State) (stay : Stay) (count : ℕ)
    → ExecutesInside 0 insert_stay (int stay.party ∷ Text stay.guest ∷ Text stay.kind ∷ int stay.arrive
    ∷ int stay.depart ∷ int (state_number stay.state) ∷ maybe_int (room_of_state stay.state) ∷ []) old new (Ok count)
    → IsMidWith AnyRows old → MovesRows old new (stay_added stay)
stay_step old new s count h mid =
    let was = (mid h.1.was_open).0 in
    let row = stay_stored s in
    let did : Put stay_tree row old new =
    put stay_tree stay_table _ row row old new count changes.insert_stay (λ _ does. does) refl
    (rw (cast_int (pos s.party)) (ap (λ (cast : Row). cast ∷ []) (rw (cast_int (pos s.party)) at (stay_cast s))))
    was.schema h.0 in
    steps old new (stay_added s) h.1 did.changes (stays_set was.tables (insert_makes stay_columns stay_of stay_written
    stay_numbered row s.party s _ was.tables.stay (stay_good s) (stay_reads s) refl did.fresh))

pub card_step : (old new : State) (card : Card) (count : ℕ) → ExecutesInside 0 insert_card (int card.number
    ∷ int card.party ∷ int card.link.old_code ∷ int card.link.new_code ∷ []) old new (Ok count)
    → IsMidWith AnyRows old → MovesRows old new (card_added card)
card_step old new c count h mid =
    let was = (mid h.1.was_open).0 in
    let row = card_stored c in
    let did : Put card_tree row old new =
    put card_tree card_table _ row row old new count changes.insert_card (λ _ does. does) refl
    (rw (
      cast_null,
      cast_int (pos c.number),
      cast_int (pos c.party),
      cast_int (pos c.link.old_code),
      cast_int (pos c.link.new_code),
    ) refl) was.schema h.0 in
    steps old new (card_added c) h.1 did.changes (cards_set was.tables (insert_makes card_columns card_of card_written
    card_numbered row c.number c _ was.tables.card refl refl refl did.fresh))

-- ---- the tables whose rows have a number of their own

kind_apart : (kind : List ℕ) (kinds : List (List ℕ)) → AllByRecursion (λ k. bytes_eq k kind ≡ false) kinds
    → AllByRecursion (λ k. is_eq (slice_cmp nat_cmp kind k) ≡ false) kinds
kind_apart kind kinds apart = all_weaker (λ k. bytes_eq k kind ≡ false) _
    (λ k other. same_tie (slice_cmp nat_cmp) nat_list_cmp_total kind k ∙ is_eq-slice_cmp k kind ∙ other) kinds apart

-- the kind isn't there yet
pub kind_step : (old new : State) (kind : List ℕ) (count : ℕ)
    → ExecutesInside 0 insert_kind (Text kind ∷ []) old new (Ok count)
    → IsMidWith (λ rows. has_kind rows kind ≡ false) old → MovesRows old new (kind_added kind)
kind_step old new kind count h mid =
    let both = mid h.1.was_open in
    let was = both.0 in
    let kinds = (rows_in old.now.trees).kinds in
    let row = kind_stored (next_rowid (old.now.trees kind_tree)) kind in
    let did : Put kind_tree row old new =
    put kind_tree kind_table _ (Null ∷ Text kind ∷ []) row old new count changes.insert_kind (λ _ does. does) refl
    (rw (cast_null, cast_text kind) refl) was.schema h.0 in
    let apart = kind_apart kind kinds (none_from_any (λ k. bytes_eq k kind) kinds both.1) in
    let made = put_keyed (slice_cmp nat_cmp) nat_list_cmp_total (IsWrittenAs kind_columns kind_of kind_written)
    (λ r. kind_of (kind_columns r)) row kind _ was.tables.kind refl refl did.fresh apart in
    steps old new (kind_added kind) h.1 did.changes
    (kinds_set was.tables (made.0, made.1 ∙ key_put (slice_cmp nat_cmp) kind kinds apart))

not_at : {V : Type 0} (k : ℕ × ℕ) (es : List ((ℕ × ℕ) × V))
    → lookup (is_at (pair_cmp k)) es ≡ None → AllByRecursion (λ e. is_eq (pair_cmp k e.0) ≡ false) es
not_at k [] none = tt
not_at k (e ∷ es) none = elim (cases_Bool (is_eq (pair_cmp k e.0))) [
  | inl at ↦ absurd (let z = rw at at none in cc)
  | inr other ↦ (other, not_at k es (rw other at none))
]

-- the note of a number, by the fits that it is counted under
reads_as : (n : Note) (number : ℕ) (of : Option FitRow) → said_of of false (counts_to n number) ≡ true
    → with_count of number (bare_note number n) ≡ n
reads_as n number None counted = absurd cc
reads_as n number (Some f) counted =
    let both = and_true (eqb f.fit n.fit) (eqb number (f.before + n.count)) counted in
    let fit : f.fit ≡ n.fit = eq_from f.fit n.fit both.0 in
    let counts_up = eq_from number (f.before + n.count) both.1 in
    let count : number - f.before ≡ n.count = omega (arith, counts_up) in
    ap₂ (λ fit count. record n { fit = fit; count = count }) fit count

-- the room has no note of the number yet
pub note_step : (old new : State) (note : Note) (number : ℕ) (count : ℕ)
    → ExecutesInside 0 insert_note (int note.room ∷ int number ∷ int (act_number note.act)
    ∷ maybe_int (act_card note.act) ∷ int (act_first note.act) ∷ int (act_second note.act)
    ∷ int note.day ∷ int note.second ∷ []) old new (Ok count)
    → IsMidWith (IsNewNote note number) old → MovesRows old new (note_added note number)
note_step old new n number count h mid =
    let both = mid h.1.was_open in
    let was = both.0 in
    let db = old.now.trees in
    let k : ℕ × ℕ = (n.room, number) in
    let id = next_rowid (old.now.trees note_tree) in
    let row = note_stored id number n in
    let did : Put note_tree row old new = put note_tree note_table _
    (Null ∷ int n.room ∷ int number ∷ int (act_number n.act) ∷ maybe_int (act_card n.act) ∷ int (act_first n.act)
    ∷ int (act_second n.act) ∷ int n.day ∷ int n.second ∷ []) row
    old new count changes.insert_note (λ _ does. does) refl
    (rw (
      cast_null,
      cast_int (pos n.room),
      cast_int (pos number),
      cast_int (pos (act_number n.act)),
      cast_maybe (act_card n.act),
      cast_int (pos (act_first n.act)),
      cast_int (pos (act_second n.act)),
      cast_int (pos n.day),
      cast_int (pos n.second),
    ) refl) was.schema h.0 in
    let bare = bare_notes_in db in
    let apart = not_at k bare (lost (joined_at (fits_in db) n.room number) (lookup (is_at (pair_cmp k)) bare)
    (sym (note_joined (fits_in db) bare k) ∙ both.1.new)) in
    let made = put_keyed (by_key pair_cmp) (key_total pair_cmp_total)
    (IsWrittenAs note_columns note_of note_written) (λ r. note_of (note_columns r)) row (k, bare_note number n) _
    was.tables.note
    (note_good id number n) (note_reads id number n) did.fresh apart in
    let set = notes_set was.tables (made.0, made.1 ∙ entry_put pair_cmp k (bare_note number n) bare apart) in
    let joined : map (under_fit (fits_in db)) (insert_entry pair_cmp bare k (bare_note number n))
    ≡ insert_entry pair_cmp (map (under_fit (fits_in db)) bare) k n =
    note_put (fits_in db) bare k (bare_note number n)
    ∙ ap (insert_entry pair_cmp (map (under_fit (fits_in db)) bare) k)
    (reads_as n number (fit_of_number (fits_at (fits_in db) n.room) number) both.1.counted) in
    steps old new (note_added n number) h.1 did.changes
    (set.0, set.1 ∙ ap (λ notes. record (rows_in db) { notes = notes }) joined)
  where
    lost : {A B : Type 0} (f : A → B) (o : Option A) → option_map f o ≡ None → o ≡ None
    lost f None none = refl
    lost f (Some a) none = absurd cc

-- a row of a table whose key it doesn't have
none_at : {V : Type 0} (room number : ℕ) (es : List ((ℕ × ℕ) × V)) → list_all (is_below room number) es ≡ true
    → AllByRecursion (λ e. is_eq (pair_cmp (room, number) e.0) ≡ false) es
none_at room number [] later = tt
none_at room number (e ∷ es) later =
    let both = and_true (is_below room number e) (list_all (is_below room number) es) later in
    (pair_is room number e.0 ∙ by (eqb e.0.0 room) both.0, none_at room number es both.1)
  where
    by : (b : Bool) → (not b || nat_lt e.0.1 number) ≡ true → (b && eqb e.0.1 number) ≡ false
    by true low = grind (arith, nat_tests, low)
    by false low = refl

-- a fit of a room was put
pub put_fit : (old new : State) (fit : FitRow) (count : ℕ)
    → ExecutesIn false insert_fit (int fit.room ∷ int fit.fit ∷ int fit.place ∷ int fit.before ∷ []) old new (Ok count)
    → old.now.schema ≡ desk_schema → Put fit_tree (fit_stored (next_rowid (old.now.trees fit_tree)) fit) old new
put_fit old new f count h has =
    put fit_tree fit_table _ (Null ∷ int f.room ∷ int f.fit ∷ int f.place ∷ int f.before ∷ [])
    (fit_stored (next_rowid (old.now.trees fit_tree)) f) old new count changes.insert_fit (λ _ does. does) refl
    (rw (cast_null, cast_int (pos f.room), cast_int (pos f.fit), cast_int (pos f.place), cast_int (pos f.before)) refl)
    has h

-- where no fit had its key, the table has it behind that, and no other moved
pub fit_made : (id : ℤ) (fit : FitRow) (db : Trees) → AreFits (db fit_tree)
    → is_taken (db fit_tree) (fit_stored id fit) ≡ false
    → AllByRecursion (λ e. is_eq (pair_cmp (fit.room, fit.fit) e.0) ≡ false) (fits_in db)
    → AreRowsOf (by_key pair_cmp) fit_columns fit_of fit_written (put_row (fit_stored id fit) (db fit_tree))
    (insert_entry pair_cmp (fits_in db) (fit.room, fit.fit) fit)
fit_made id f db was fresh apart =
    let k : ℕ × ℕ = (f.room, f.fit) in
    let made = put_keyed (by_key pair_cmp) (key_total pair_cmp_total) (IsWrittenAs fit_columns fit_of fit_written)
    (λ r. fit_of (fit_columns r)) (fit_stored id f) (k, f) _ was refl refl fresh apart in
    (made.0, made.1 ∙ entry_put pair_cmp k f (fits_in db) apart)

-- the next fit of a room
pub fit_step : (old new : State) (fit : FitRow) (count : ℕ)
    → ExecutesInside 0 insert_fit (int fit.room ∷ int fit.fit ∷ int fit.place ∷ int fit.before ∷ []) old new (Ok count)
    → IsMidWith (IsNextFit fit) old → MovesRows old new (fit_added fit)
fit_step old new f count h mid =
    let both = mid h.1.was_open in
    let was = both.0 in
    let db = old.now.trees in
    let fits = fits_in db in
    let did = put_fit old new f count h.0 was.schema in
    let set = fits_set was.tables
    (fit_made _ f db was.tables.fit did.fresh (none_at f.room f.fit fits both.1.later)) in
    let up = keys_rise pair_cmp fits (fits_rise db was.tables) in
    let rooms = rooms_fitted fits f up both.1.later (bare_rooms_in db) (rooms_rise db was.tables) in
    let notes = notes_kept fits f up both.1.later (bare_notes_in db)
    (noted_bare fits f (bare_notes_in db) both.1.noted) in
    steps old new (fit_added f) h.1 did.changes (
      set.0,
      set.1 ∙ ap₂ (λ rooms notes. record (rows_in db)
          { rooms = rooms; notes = notes; fits = insert_entry pair_cmp fits (f.room, f.fit) f }) rooms notes,
    )
