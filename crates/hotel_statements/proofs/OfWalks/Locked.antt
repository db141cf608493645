-- The walk over the present locks: the rooms, each with its last fit and its last note.
use Rattle.std.proofs.Common.{if◌then◌else◌, ◌≡◌, ◌&&◌, ◌≤◌, ◌<◌, ◌+◌, ◌-◌, ◌++◌, ◌∙◌, refl, sym, ap, ap₂, subst}
use Rattle.std.proofs.Common.{List, [], ◌∷◌, ℕ, Bool, true, false, Option, Some, None, map, filter, flat_map, length}
use Rattle.std.proofs.Common.{append-nil, arith, Less, nat_cmp, nat_lt, nat_le, eqb}
use Rattle.std.specs.Prelude.{filter_map, option_map}
use Rattle.std.specs.List.{AllByRecursion, cons_option}
use Rattle.std.specs.Map.{lookup, values_of}
use Rattle.std.specs.Option.{option_to_list}
use Rattle.std.specs.Ordering.{is_eq, is_gt}
use Rattle.std.specs.BTreeMap.{is_at}
use Rattle.std.specs.List.Sorted.{IsPermutation}
use Rattle.std.proofs.lemmas.Bool.Decides.{nat_tests}
use Rattle.std.proofs.lemmas.Cmp.{nat_cmp_total}
use Rattle.std.proofs.lemmas.List.Concat.{flat_map_single}
use Rattle.std.proofs.lemmas.List.Sorted.{IsPermutation-sym, length_permutation}
use Rattle.sqlite_keyed.proofs.ListLemmas.{map-map, all_weaker, all-filter, ascending-map, ascending_weaker}
use Rattle.sqlite_keyed.proofs.ListLemmas.{flat_map_none, flat_map_same_on, IsPermutation-same}
use Rattle.sqlite_value.proofs.OrderLemmas.{value_cmp-Int, value_cmp-Null, value_cmp-apart}
use Rattle.sqlite_value.specs.declared.value.Value.{Value}
use Rattle.sqlite_value.specs.declared.value.Value.TheVariants.{Null}
use Rattle.sqlite_value.specs.declared.keys.Collation.TheVariants.{Binary}
use Rattle.sqlite_value.specs.declared.keys.Key.{Key}
use Rattle.sqlite_value.specs.Keys.{ascending}
use Rattle.sqlite_sql.specs.declared.ops.BinaryOp.TheVariants.{Compare, Is}
use Rattle.sqlite_sql.specs.declared.ops.CompareOp.TheVariants.{Eq, Gt}
use Rattle.sqlite.specs.Ops.{binary, is_true}
use Rattle.sqlite.specs.Order.{Row, column}
use Rattle.sqlite.specs.Query.{Query, Join, inner, left, end, or_nulls, Output, output, output_cmp, matches}
use Rattle.sqlite.specs.Program.{overlay}
use Rattle.sqlite.specs.Term.{Term, lit, col}
use Rattle.sqlite_sql.specs.Term.{op2}
use Rattle.sqlite.specs.Tree.{Trees, IsAscending}
use Rattle.sqlite.proofs.Callers.{one_permutation}
use Rattle.keycard_rules.specs.Note.{Note}
use Rattle.hotel_nights.specs.Moments.{Moment, moment_of}
use Rattle.hotel_model.specs.declared.rows.RoomRow.{RoomRow}
use Rattle.hotel_model.specs.declared.rows.FitRow.{FitRow}
use Rattle.hotel_model.specs.declared.list_rows.LockRow.{LockRow}
use Rattle.hotel_model.specs.Words.{pair_cmp, said_of}
use Rattle.hotel_model.specs.Rows.{Rows, at_number, fits_at, fit_at, last_fit}
use Rattle.hotel_model.specs.SoundRooms.{count_up}
use Rattle.hotel_model.specs.Sound.{IsSound}
use Rattle.hotel_model.specs.Refinement.ListsOnRows.{is_count, lock_at, lock_row_on, locks_on}
use Rattle.hotel_model.specs.Refinement.Lookups.{note_at, note_numbered, of_fit}
use Rattle.hotel_model.proofs.OfTables.Pairs.{pair_cmp_total, pair_is}
use Rattle.hotel_model.proofs.OfTables.RowTests.{found_passes}
use Rattle.hotel_model.proofs.OfTables.Tests.{eq_self, le_from}
use Rattle.hotel_model.proofs.OfTables.Tests as tests
use Rattle.hotel_model.proofs.Starts.StartCodes.{room_is}
use Rattle.hotel_rows.specs.Joined.{with_fit, FitEntries}
use Rattle.hotel_rows.proofs.OfJoined.{joined_at, note_joined, number_of_last}
use Rattle.hotel_statements.specs.Trees.{room_tree, fit_tree, note_tree}
use Rattle.hotel_statements.specs.Schema.{compare}
use Rattle.hotel_statements.specs.Values.{int, maybe_int, option_of, number_of}
use Rattle.hotel_statements.specs.Columns.{room_columns, room_of, room_written, fit_columns, fit_of, fit_written}
use Rattle.hotel_statements.specs.Columns.{note_columns, note_of, note_written}
use Rattle.hotel_statements.specs.Tables.{AreTables, IsWrittenAs, by_key, rows_in, bare_rooms_in}
use Rattle.hotel_statements.specs.Tables.{bare_notes_in, fits_in}
use Rattle.hotel_statements.specs.LookUps.{AnswersAll}
use Rattle.hotel_statements.specs.Walks.{lock_row_of}
use Rattle.hotel_statements.proofs.Risen.{fits_rise, rooms_rise}
use Rattle.hotel_statements.proofs.Joins.{fitted, joined_there}
use Rattle.hotel_statements.proofs.ByRoom.{fit_numbered}
use Rattle.hotel_statements.proofs.Keys.{equals, and_true, truly}
use Rattle.hotel_statements.proofs.Keyed.{key_total}
use Rattle.hotel_statements.proofs.Found.{kept_rows, made_rows, one_entry}
use Rattle.hotel_statements.proofs.Perm.{sort_rises}
use Rattle.hotel_statements.proofs.Ordered.{int_order, then_nothing}
use Rattle.hotel_statements.proofs.OfWalks.SoundCodes.{finds_itself}
use Rattle.hotel_statements.proofs.OfWalks.LastFits.{Fit, is_later, is_nil, of_last, last_alone, some_last}
use Rattle.hotel_statements.proofs.OfWalks.LastFits.{last_numbered}
use Rattle.hotel_statements.proofs.OfWalks.Joined.{over, sorted_answer, one_more_table, table_or_none}
use Rattle.hotel_statements.proofs.OfWalks.Joined.{made_of_each, rise_alike, said_of_each}

more_than : (a k : ℕ) → is_true (binary (Compare Gt Binary) (int a) (int k)) ≡ nat_lt k a
unfolding binary
more_than a k = truly _ ∙ ap is_gt (value_cmp-Int _ _) ∙ grind (arith, nat_tests)

-- a number isn't null, and the column of no row is
abbrev is_missing : Value → Bool
is_missing v = is_true (binary (Is Binary) v Null)

not_missing : (n : ℕ) → is_missing (int n) ≡ false
unfolding binary
not_missing n = truly _ ∙ ap is_eq (value_cmp-apart (int n) Null (λ same. omega (arith, same)))

missing : is_missing Null ≡ true
unfolding binary
missing = truly _ ∙ ap is_eq (value_cmp-Null Null)

-- ---- the query: rooms, their fits, the fits later than these, and the last note

abbrev test : List Term
test = compare Eq (col 2 1) (col 1 0) ∷ op2 (Is Binary) (col 3 1) (lit Null) ∷ []

abbrev later_test : List Term
later_test = compare Eq (col 3 1) (col 2 1) ∷ compare Gt (col 3 2) (col 2 2) ∷ []

abbrev noted_test : List Term
noted_test = compare Eq (col 4 1) (col 1 0) ∷ compare Eq (col 4 2) (col 1 7) ∷ []

abbrev project : List Term
project = col 1 0 ∷ col 2 2 ∷ col 1 7 ∷ col 2 4 ∷ col 4 7 ∷ col 4 8 ∷ []

abbrev order : List (Term × Key)
order = (col 1 0, ascending Binary) ∷ []

abbrev noted : Join
noted = left note_tree noted_test end

abbrev later : Join
later = left fit_tree later_test noted

abbrev tables : Join
tables = inner room_tree (inner fit_tree later)

abbrev pub locks_query : Query
locks_query = over tables test project order

abbrev Room : Type 0
Room = ℕ × RoomRow

-- a room, its last fit and its last note, and what is shown of them
abbrev Lock : Type 0
Lock = Room × (FitRow × Option Note)

abbrev moment_shown : Option Note → Value × Value
moment_shown o = (maybe_int (option_map (λ (n : Note). n.day) o), maybe_int (option_map (λ (n : Note). n.second) o))

abbrev with_moment : Room → FitRow → Value × Value → Output
with_moment e f m =
    (int e.0 ∷ [], int e.0 ∷ int f.fit ∷ int e.1.notes ∷ int f.before ∷ m.0 ∷ m.1 ∷ [])

abbrev shown : Lock → Output
shown y = with_moment y.0 y.1.0 (moment_shown y.1.1)

-- ---- lists of one, and of none

none_alike : {X Y : Type 0} (f : X → Y) (xs : List X) (ys : List Y) → IsPermutation (map f xs) ys
    → is_nil xs ≡ is_nil ys
none_alike f [] [] same = refl
none_alike f [] (y ∷ ys) same = absurd (omega (arith, length_permutation _ _ same))
none_alike f (x ∷ xs) [] same = absurd (omega (arith, length_permutation _ _ same))
none_alike f (x ∷ xs) (y ∷ ys) same = refl

-- the row of none or one, where it may be empty
one_or_empty : {X Y : Type 0} (f : Row → Y) (g : Option X → Y) (ns : List Row) (o : Option X) → f [] ≡ g None
    → IsPermutation (map f ns) (map (λ x. g (Some x)) (option_to_list o)) → map f (or_nulls ns) ≡ g o ∷ []
one_or_empty f g [] None empty same = ap (λ y. y ∷ []) empty
one_or_empty f g [] (Some x) empty same = absurd (omega (arith, length_permutation _ _ same))
one_or_empty f g (n ∷ ns) None empty same = absurd (omega (arith, length_permutation _ _ same))
one_or_empty f g (n ∷ ns) (Some x) empty same =
    one_permutation (g (Some x)) (map f (n ∷ ns)) (IsPermutation-sym _ _ same)

module _ (db : Trees) (t : AreTables db) where
  abbrev rows : Rows
  rows = rows_in db

  -- the rooms and the notes, as their tables have them
  abbrev rooms : List Room
  rooms = bare_rooms_in db

  abbrev last_note : Room → Option Note
  last_note e = lookup (is_at (pair_cmp (e.0, e.1.notes))) (bare_notes_in db)

  abbrev GoodRoom : Row → Type 0
  GoodRoom = IsWrittenAs room_columns room_of room_written

  abbrev GoodFit : Row → Type 0
  GoodFit = IsWrittenAs fit_columns fit_of fit_written

  abbrev fit_in : Row → Fit
  fit_in s = fit_of (fit_columns s)

  abbrev eq : Value → Value → Bool
  eq v w = is_true (binary (Compare Eq Binary) v w)

  abbrev lock_of : Room → FitRow → Lock
  lock_of e f = (e, (f, last_note e))

  module _ (r : Row) (room : GoodRoom r) where
    abbrev e : Room
    e = room_of (room_columns r)

    number : column r 0 ≡ int e.0
    number = ap (λ v. column v 0) room

    notes : column r 7 ≡ int e.1.notes
    notes = ap (λ v. column v 6) room

    -- ---- the last note of the room

    note_there : (n : Row) → IsWrittenAs note_columns note_of note_written n
        → (eq (column n 1) (column r 0) && (eq (column n 2) (column r 7) && true))
        ≡ is_at (pair_cmp (e.0, e.1.notes)) (note_of (note_columns n)).0
    note_there n good =
        let k = (note_of (note_columns n)).0 in
        ap₂ (λ a b. a && b) (ap₂ eq (ap (λ v. column v 0) good) number ∙ equals k.0 e.0)
        (and_true _ ∙ ap₂ eq (ap (λ v. column v 1) good) notes ∙ equals k.1 e.1.notes)
        ∙ sym (pair_is e.0 e.1.notes k)

    abbrev moment_columns : Row → Value × Value
    moment_columns n = (column n 7, column n 8)

    abbrev last_notes : List Row
    last_notes = filter (λ n. eq (column n 1) (column r 0) && (eq (column n 2) (column r 7) && true)) (db note_tree)

    one_note : map moment_columns (or_nulls last_notes) ≡ moment_shown (last_note e) ∷ []
    one_note =
        let notes_there = bare_notes_in db in
        let found : map (λ (x : (ℕ × ℕ) × Note). moment_shown (Some x.1))
        (filter (λ (x : (ℕ × ℕ) × Note). is_at (pair_cmp (e.0, e.1.notes)) x.0) notes_there)
        ≡ map (λ n. moment_shown (Some n)) (option_to_list (last_note e)) =
        sym (map-map (λ n. moment_shown (Some n)) (λ (x : (ℕ × ℕ) × Note). x.1) _)
        ∙ ap (map (λ n. moment_shown (Some n))) (one_entry pair_cmp pair_cmp_total (e.0, e.1.notes) notes_there
        (sort_rises (by_key pair_cmp) (key_total pair_cmp_total) _ t.note.apart)) in
        one_or_empty moment_columns moment_shown last_notes (last_note e) refl
        (subst (IsPermutation (map moment_columns last_notes)) found
        (made_rows (by_key pair_cmp) (key_total pair_cmp_total) (IsWrittenAs note_columns note_of note_written)
        (λ n. note_of (note_columns n))
        (λ n. eq (column n 1) (column r 0) && (eq (column n 2) (column r 7) && true))
        (λ x. is_at (pair_cmp (e.0, e.1.notes)) x.0) moment_columns (λ x. moment_shown (Some x.1)) (db note_tree) t.note
        note_there (λ n good. ap₂ (λ a b. (a, b)) (ap (λ v. column v 6) good) (ap (λ v. column v 7) good))))

    module _ (s : Row) (fit : GoodFit s) where
      abbrev x : Fit
      x = fit_in s

      -- the matches with this row of a later fit
      abbrev with_later : Row → List Output
      with_later l = map (output locks_query) (matches (overlay db []) test noted ([] ∷ r ∷ s ∷ l ∷ []))

      abbrev is_there : Row → Bool
      is_there l = eq (column s 1) (column r 0) && (is_missing (column l 1) && true)

      abbrev out : Row → Output
      out n = (
        column r 0 ∷ [],
        column r 0 ∷ column s 2 ∷ column r 7 ∷ column s 4 ∷ column n 7 ∷ column n 8 ∷ [],
      )

      outs : map out (or_nulls last_notes) ≡ shown (lock_of e x.1) ∷ []
      outs =
          let put : Value → Value → Value → Value → Value × Value → Output =
          λ room fit notes before m. (room ∷ [], room ∷ fit ∷ notes ∷ before ∷ m.0 ∷ m.1 ∷ []) in
          sym (map-map (put (column r 0) (column s 2) (column r 7) (column s 4)) moment_columns (or_nulls last_notes))
          ∙ ap (map (put (column r 0) (column s 2) (column r 7) (column s 4))) one_note
          ∙ ap₂ (λ a b. put a (column s 2) b (column s 4) (moment_shown (last_note e)) ∷ []) number notes
          ∙ ap₂ (λ a b. put (int e.0) a (int e.1.notes) b (moment_shown (last_note e)) ∷ [])
          (ap (λ v. column v 1) fit) (ap (λ v. column v 3) fit)

      shows : (l : Row) (b : Bool) → is_there l ≡ b
          → with_later l ≡ (if b then shown (lock_of e x.1) ∷ [] else [])
      shows l b is =
          table_or_none db test locks_query noted_test note_tree end ([] ∷ r ∷ s ∷ l ∷ [])
          ∙ ap (λ c. flat_map (λ n. map (output locks_query) (if c then ([] ∷ r ∷ s ∷ l ∷ n ∷ []) ∷ [] else []))
          (or_nulls last_notes)) is ∙ by b
        where
          by : (b : Bool) → flat_map (λ n. map (output locks_query) (if b then ([] ∷ r ∷ s ∷ l ∷ n ∷ []) ∷ []
              else [])) (or_nulls last_notes) ≡ (if b then shown (lock_of e x.1) ∷ [] else [])
          by true = flat_map_single out (or_nulls last_notes) ∙ outs
          by false = flat_map_none _ (λ n. refl) (or_nulls last_notes)

      -- ---- the fits later than this one

      later_there : (l : Row) → GoodFit l
          → (eq (column l 1) (column s 1) && (is_true (binary (Compare Gt Binary) (column l 2) (column s 2)) && true))
          ≡ is_later x (fit_in l)
      later_there l good =
          ap₂ (λ a b. a && b)
          (ap₂ eq (ap (λ v. column v 0) good) (ap (λ v. column v 0) fit) ∙ equals (fit_in l).0.0 x.0.0)
          (and_true _
          ∙ ap₂ (λ v w. is_true (binary (Compare Gt Binary) v w)) (ap (λ v. column v 1) good) (ap (λ v. column v 1) fit)
          ∙ more_than (fit_in l).0.1 x.0.1)

      abbrev later_fits : List Row
      later_fits = filter (λ l. eq (column l 1) (column s 1)
          && (is_true (binary (Compare Gt Binary) (column l 2) (column s 2)) && true)) (db fit_tree)

      none_there : (l : Row) → GoodFit l → is_there l ≡ false
      none_there l good =
          ap (λ b. eq (column s 1) (column r 0) && (b && true))
          (ap is_missing (ap (λ v. column v 0) good) ∙ not_missing (fit_in l).0.0)
          ∙ never (eq (column s 1) (column r 0))
        where
          never : (b : Bool) → (b && (false && true)) ≡ false
          never true = refl
          never false = refl

      gone : (ls : List Row) → AllByRecursion GoodFit ls → flat_map with_later ls ≡ []
      gone [] good = refl
      gone (l ∷ ls) good = ap₂ (λ a b. a ++ b) (shows l false (none_there l good.0)) (gone ls good.1)

      of_room : is_there [] ≡ eqb x.0.0 e.0
      of_room =
          ap (λ b. eq (column s 1) (column r 0) && (b && true)) missing ∙ and_true _
          ∙ ap₂ eq (ap (λ v. column v 0) fit) number ∙ equals x.0.0 e.0

      first_or_none : (ls : List Row) → AllByRecursion GoodFit ls → flat_map with_later (or_nulls ls)
          ≡ (if is_nil ls then (if eqb x.0.0 e.0 then shown (lock_of e x.1) ∷ [] else []) else [])
      first_or_none [] good = append-nil (with_later []) ∙ shows [] (eqb x.0.0 e.0) of_room
      first_or_none (l ∷ ls) good = gone (l ∷ ls) good

      pub matched_fit : map (output locks_query) (matches (overlay db []) test later ([] ∷ r ∷ s ∷ []))
          ≡ of_last e.0 (λ f. shown (lock_of e f) ∷ []) (fits_in db) x
      matched_fit =
          table_or_none db test locks_query later_test fit_tree noted ([] ∷ r ∷ s ∷ [])
          ∙ first_or_none later_fits (all-filter GoodFit _ (db fit_tree) t.fit.good)
          ∙ ap (λ b. if b then (if eqb x.0.0 e.0 then shown (lock_of e x.1) ∷ [] else []) else [])
          (none_alike (λ l. fit_in l) later_fits (filter (is_later x) (fits_in db))
          (kept_rows (by_key pair_cmp) (key_total pair_cmp_total) GoodFit (λ l. fit_in l) _ (is_later x) (db fit_tree)
          t.fit later_there))

  -- ---- each room has one last fit at most

  abbrev locks_of : Room → List Output
  locks_of e = flat_map (of_last e.0 (λ f. shown (lock_of e f) ∷ []) (fits_in db)) (fits_in db)

  matched : IsPermutation (map (output locks_query) (matches (overlay db []) test tables ([] ∷ [])))
      (flat_map locks_of rooms)
  matched =
      one_more_table db test locks_query (by_key nat_cmp) (key_total nat_cmp_total) GoodRoom
      (λ r. room_of (room_columns r)) room_tree (inner fit_tree later) ([] ∷ []) locks_of t.room.good (λ r room.
      one_more_table db test locks_query (by_key pair_cmp) (key_total pair_cmp_total) GoodFit (λ s. fit_in s) fit_tree
      later ([] ∷ r ∷ [])
      (of_last (room_of (room_columns r)).0 (λ f. shown (lock_of (room_of (room_columns r)) f) ∷ []) (fits_in db))
      t.fit.good (λ s fit. IsPermutation-same _ _ (matched_fit r room s fit)))

  abbrev pair : Room → Option Lock
  pair e = option_map (lock_of e) (last_fit (fits_at (fits_in db) e.0))

  one_lock : (e : Room) → locks_of e ≡ map shown (option_to_list (pair e))
  one_lock e = last_alone e.0 (λ f. shown (lock_of e f) ∷ []) (fits_in db) (fits_rise db t)
      ∙ by (last_fit (fits_at (fits_in db) e.0))
    where
      by : (o : Option FitRow) → said_of o [] (λ f. shown (lock_of e f) ∷ [])
          ≡ map shown (option_to_list (option_map (lock_of e) o))
      by None = refl
      by (Some f) = refl

  of_pair : (e : Room) (y : Lock) → pair e ≡ Some y → y.0 ≡ e
  of_pair e y is = by (last_fit (fits_at (fits_in db) e.0)) is
    where
      by : (o : Option FitRow) → option_map (lock_of e) o ≡ Some y → y.0 ≡ e
      by None is = absurd cc
      by (Some f) is = let same : lock_of e f ≡ y = cc in sym (ap (λ (z : Lock). z.0) same)

  -- ---- what is said of each

  module _ (sound : IsSound rows) (e : Room) (known : at_number rooms e.0 ≡ Some e.1) where
    abbrev row : RoomRow
    row = fitted (fits_in db) e.0 e.1

    there : at_number rows.rooms e.0 ≡ Some row
    there = joined_there (fits_in db) rooms e known

    own : e.1.room ≡ e.0
    own = room_is rows sound e.0 row there

    abbrev its_fits : List FitRow
    its_fits = fits_at (fits_in db) e.0

    counted : (count_up 1 (map (λ (f : FitRow). f.fit) its_fits) ≡ true) × (1 ≤ length its_fits)
    counted =
        let all = (tests.and_true _ _ sound.fit_number).1 in
        let one = found_passes (λ (e : Room). (count_up 1 (map (λ (f : FitRow). f.fit) (fits_at rows.fits e.1.room))
        && nat_le 1 (length (fits_at rows.fits e.1.room))) && nat_le (length (fits_at rows.fits e.1.room)) 99)
        rows.rooms e.0 row all there in
        let two = tests.and_true _ _ (tests.and_true _ _ one).0 in
        subst (λ k. (count_up 1 (map (λ (f : FitRow). f.fit) (fits_at rows.fits k)) ≡ true)
        × (1 ≤ length (fits_at rows.fits k))) own (two.0, le_from 1 (length (fits_at rows.fits e.1.room)) two.1)

    module _ (f : FitRow) (last : last_fit its_fits ≡ Some f) where
      abbrev count : ℕ
      count = e.1.notes - f.before

      found : fit_at rows e.0 f.fit ≡ Some f
      found = fit_numbered db e.0 f.fit ∙ (last_numbered its_fits f 1 counted.0 last).1

      moment_back : (o : Option Note)
          → option_map (λ day. (day, number_of (moment_shown o).1)) (option_of (moment_shown o).0)
          ≡ option_map moment_of o
      moment_back None = refl
      moment_back (Some n) = refl

      of_its_fit : (o : Option Note) → f.before < e.1.notes
          → option_map moment_of (of_fit f.fit (option_map (joined_at (fits_in db) e.0 e.1.notes) o))
          ≡ option_map moment_of o
      of_its_fit None low = refl
      of_its_fit (Some n) low =
          let is = number_of_last its_fits f e.1.notes last low in
          ap (λ w. option_map moment_of (of_fit f.fit (Some (record n {
            fit = said_of w n.fit (λ (g : FitRow). g.fit);
            count = said_of w n.count (λ (g : FitRow). e.1.notes - g.before);
          })))) is
          ∙ ap (λ b. option_map moment_of (if b then Some (record n { fit = f.fit; count = count }) else None))
          (eq_self f.fit)

      noted_at : is_count count ≡ true
          → option_map moment_of (last_note e) ≡ option_map moment_of (note_at rows e.0 f.fit count)
      noted_at some =
          let one = tests.and_true (nat_le 1 count) _ some in
          let least = le_from 1 count one.0 in
          let low : f.before < e.1.notes = omega (arith, least) in
          let number : e.1.notes ≡ f.before + count = omega (arith, low) in
          sym (of_its_fit (last_note e) low)
          ∙ ap (λ o. option_map moment_of (of_fit f.fit o))
          (sym (note_joined (fits_in db) (bare_notes_in db) (e.0, e.1.notes)))
          ∙ ap (λ n. option_map moment_of (of_fit f.fit (note_numbered rows e.0 n))) number
          ∙ ap (λ w. option_map moment_of
          (said_of w None (λ (g : FitRow). of_fit f.fit (note_numbered rows e.0 (g.before + count))))) (sym found)

      moment_same : (b : Bool) → is_count count ≡ b
          → (if b then option_map moment_of (last_note e) else None)
          ≡ option_map moment_of (if b then note_at rows e.0 f.fit count else None)
      moment_same true is = noted_at is
      moment_same false is = refl

      abbrev lock_with : ℕ → Option Moment → LockRow
      lock_with room at = record { room = room; fit = f.fit; count = count; at = at }

      says_of : lock_row_of (shown (lock_of e f)).1 ≡ lock_row_on rows (record e.1 { fit = f.fit; before = f.before })
      says_of =
          ap (λ m. lock_with e.0 (if is_count count then m else None)) (moment_back (last_note e))
          ∙ ap (lock_with e.0) (moment_same (is_count count) refl)
          ∙ ap (λ k. lock_with k (option_map moment_of (if is_count count then note_at rows k f.fit count else None)))
          (sym own)

    says : option_map (λ y. lock_row_of (shown y).1) (pair e) ≡ lock_at rows e.1.room
    says =
        let it = some_last its_fits counted.1 in
        ap (λ w. option_map (λ y. lock_row_of (shown y).1) (option_map (lock_of e) w)) it.1
        ∙ ap Some (says_of it.0 it.1)
        ∙ ap (λ w. Some (lock_row_on rows (record e.1 {
          fit = said_of w e.1.fit (λ (g : FitRow). g.fit);
          before = said_of w e.1.before (λ (g : FitRow). g.before);
        }))) (sym it.1)
        ∙ ap (option_map (lock_row_on rows)) (sym there)
        ∙ ap (λ k. option_map (lock_row_on rows) (at_number rows.rooms k)) (sym own)

  -- the numbers of the rooms aren't moved by their fits
  by_number : {R : Type 0} (f : ℕ → Option R) (fits : FitEntries) (es : List Room)
      → filter_map f (map (λ row. row.room) (values_of (map (with_fit fits) es)))
      ≡ filter_map (λ row. f row.room) (values_of es)
  by_number f fits [] = refl
  by_number f fits (e ∷ es) = ap (cons_option (f e.1.room)) (by_number f fits es)

  pub locks_said : IsSound rows → (all : List LockRow) → AnswersAll lock_row_of locks_query [] db all
      → all ≡ locks_on rows
  locks_said sound all a =
      let mine = filter_map pair rooms in
      let up : IsAscending (λ x y. output_cmp locks_query x y ≡ Less) (map shown mine) =
      ascending-map _ shown mine (ascending_weaker _ _ (λ x y less. then_nothing _ ∙ int_order x.0.0 y.0.0 ∙ less) mine
      (rise_alike pair (λ (a b : Room). by_key nat_cmp a b ≡ Less) (λ (y : Lock). y.0) of_pair rooms
      (rooms_rise db t))) in
      let same : IsPermutation (map (output locks_query) (matches (overlay db []) test tables ([] ∷ [])))
      (map shown mine) =
      subst (IsPermutation _) (flat_map_same_on _ _ one_lock rooms ∙ made_of_each pair shown rooms) matched in
      let shows = sorted_answer tables test project order (overlay db []) [] a.0 (map shown mine) a.1 same up in
      a.2 ∙ ap (map lock_row_of) (shows ∙ map-map (λ (o : Output). o.1) shown mine)
      ∙ map-map lock_row_of (λ y. (shown y).1) mine
      ∙ said_of_each pair (λ y. lock_row_of (shown y).1) (λ row. lock_at rows row.room) rooms
      (all_weaker _ _ (says sound) rooms (finds_itself rooms (rooms_rise db t)))
      ∙ sym (by_number (lock_at rows) (fits_in db) rooms)
