-- What the look-ups of a room and of a note find, by the row of its table and the fits of the room.
use Rattle.std.proofs.Common.{◌≡◌, ◌+◌, ◌==◌, refl, sym, ap, ap₂, ◌∙◌, List, [], ◌∷◌, ℕ, cond, Option, None, Some}
use Rattle.std.proofs.Common.{is_eq, Ordering, Less, Equal, Greater}
use Rattle.std.specs.Prelude.{option_map, if◌then◌else◌}
use Rattle.std.specs.List.{AllByRecursion}
use Rattle.std.specs.Map.{lookup}
use Rattle.std.specs.BTreeMap.{is_at}
use Rattle.sqlite_keyed.proofs.ListLemmas.{all-map}
use Rattle.sqlite.specs.Tree.{Trees}
use Rattle.keycard_rules.specs.Note.{Note}
use Rattle.hotel_model.specs.declared.rows.RoomRow.{RoomRow}
use Rattle.hotel_model.specs.declared.rows.FitRow.{FitRow}
use Rattle.hotel_model.specs.Words.{pair_cmp, said_of}
use Rattle.hotel_model.specs.Rows.{at_number, fits_at, fit_at, last_fit}
use Rattle.hotel_model.specs.Refinement.Lookups.{room_at, of_fit, note_numbered, note_at}
use Rattle.hotel_model.proofs.OfTables.Pairs.{pair_cmp_total, pair_exact}
use Rattle.hotel_rows.specs.Joined.{with_last, with_count, fit_of_number}
use Rattle.hotel_statements.specs.Trees.{note_tree}
use Rattle.hotel_statements.specs.Columns.{note_columns, note_of, note_written}
use Rattle.hotel_statements.specs.Tables.{IsWrittenAs, by_key, rows_in, fits_in, bare_rooms_in, bare_notes_in}
use Rattle.hotel_statements.specs.LookUps.{numbered_fit, known_by_room}
use Rattle.hotel_statements.proofs.Keyed.{key_total}
use Rattle.hotel_statements.proofs.Ordered.{all_listed}
use Rattle.hotel_rows.proofs.OfJoined.{room_joined, note_joined, joined_at}
use Rattle.hotel_statements.proofs.Joins.{fitted}
use Rattle.hotel_statements.proofs.ByRoom.{fit_numbered}

-- ---- a room

pub room_is : (db : Trees) (k : ℕ) (bare row : RoomRow) (fits : List FitRow) → Some bare
    ≡ at_number (bare_rooms_in db) k → fits ≡ fits_at (fits_in db) k → row ≡ with_last (last_fit fits) bare
    → Some row ≡ room_at (rows_in db) k
room_is db k bare row fits there are is =
    ap Some is ∙ ap (λ fs. Some (with_last (last_fit fs) bare)) are ∙ ap (option_map (fitted (fits_in db) k)) there
    ∙ sym (room_joined (fits_in db) (bare_rooms_in db) k)

pub room_lost : (db : Trees) (k : ℕ) → None ≡ at_number (bare_rooms_in db) k → None ≡ room_at (rows_in db) k
room_lost db k none = ap (option_map (fitted (fits_in db) k)) none ∙ sym (room_joined (fits_in db) (bare_rooms_in db) k)

-- the fits of a room aren't needed for its counts
pub known_are : (db : Trees) (k : ℕ) → option_map known_by_room (at_number (bare_rooms_in db) k)
    ≡ option_map known_by_room (room_at (rows_in db) k)
known_are db k = by (at_number (bare_rooms_in db) k)
    ∙ ap (option_map known_by_room) (sym (room_joined (fits_in db) (bare_rooms_in db) k))
  where
    by : (o : Option RoomRow) → option_map known_by_room o
        ≡ option_map known_by_room (option_map (fitted (fits_in db) k) o)
    by (Some bare) = refl
    by None = refl

-- ---- a note

-- the number of a note of a fit that is among those of its room
pub note_number : (fits : List FitRow) (fit count : ℕ) (of : FitRow) (before more : ℕ)
    → before ≡ of.before → more ≡ count → Some of ≡ numbered_fit fits fit
    → Some (before + more) ≡ option_map (λ (f : FitRow). f.before + count) (numbered_fit fits fit)
note_number fits fit count of before more first last there =
    ap₂ (λ a b. Some (a + b)) first last ∙ ap (option_map (λ (f : FitRow). f.before + count)) there

-- the count of a note, as its table has it, is its number
number_is : (k : ℕ × ℕ) (es : List ((ℕ × ℕ) × Note)) → AllByRecursion (λ (e : (ℕ × ℕ) × Note). e.1.count ≡ e.0.1) es
    → (note : Note) → lookup (is_at (pair_cmp k)) es ≡ Some note → note.count ≡ k.1
number_is k [] all note found = absurd cc
number_is k (e ∷ es) all note found = by (pair_cmp k e.0) refl found (number_is k es all.1 note)
  where
    by : (o : Ordering) → pair_cmp k e.0 ≡ o → cond (is_eq o) (Some e.1) (lookup (is_at (pair_cmp k)) es) ≡ Some note
        → (lookup (is_at (pair_cmp k)) es ≡ Some note → note.count ≡ k.1) → note.count ≡ k.1
    by Less is at more = more at
    by Equal is at more =
        let same : e.1 ≡ note = cc in
        ap (λ (n : Note). n.count) (sym same) ∙ all.0 ∙ ap (λ (x : ℕ × ℕ). x.1) (sym (pair_exact k e.0 is))
    by Greater is at more = more at

module _ (db : Trees) (room fit count : ℕ) (fits : List FitRow) (are : fits ≡ fits_at (fits_in db) room) where
  fit_is : fit_at (rows_in db) room fit ≡ numbered_fit fits fit
  fit_is = fit_numbered db room fit ∙ ap (λ fs. numbered_fit fs fit) (sym are)

  abbrev found_by : Option FitRow → Option Note
  found_by o = said_of o None (λ f. of_fit fit (note_numbered (rows_in db) room (f.before + count)))

  pub no_fit : None ≡ option_map (λ (f : FitRow). f.before + count) (numbered_fit fits fit) → None
      ≡ note_at (rows_in db) room fit count
  no_fit none = by (numbered_fit fits fit) none ∙ ap found_by (sym fit_is)
    where
      by : (o : Option FitRow) → None ≡ option_map (λ (f : FitRow). f.before + count) o → None ≡ found_by o
      by None none = refl
      by (Some f) none = absurd cc

  module _ (number : ℕ) (is : Some number ≡ option_map (λ (f : FitRow). f.before + count) (numbered_fit fits fit)) where
    at_number_is : of_fit fit (option_map (joined_at (fits_in db) room number)
        (lookup (is_at (pair_cmp (room, number))) (bare_notes_in db))) ≡ note_at (rows_in db) room fit count
    at_number_is = ap (of_fit fit) (sym (note_joined (fits_in db) (bare_notes_in db) (room, number)))
        ∙ by (numbered_fit fits fit) is ∙ ap found_by (sym fit_is)
      where
        by : (o : Option FitRow) → Some number ≡ option_map (λ (f : FitRow). f.before + count) o
            → of_fit fit (note_numbered (rows_in db) room number) ≡ found_by o
        by None is = absurd cc
        by (Some f) is = let same : number ≡ f.before
            + count = cc in ap (λ n. of_fit fit (note_numbered (rows_in db) room n)) same

    pub no_note : None ≡ lookup (is_at (pair_cmp (room, number))) (bare_notes_in db) → None
        ≡ note_at (rows_in db) room fit count
    no_note none = ap (λ o. of_fit fit (option_map (joined_at (fits_in db) room number) o)) none ∙ at_number_is

    pub note_is : (bare note : Note) → Some bare ≡ lookup (is_at (pair_cmp (room, number))) (bare_notes_in db) → note
        ≡ with_count (fit_of_number fits bare.count) bare.count bare
        → (if note.fit == fit then Some note else None) ≡ note_at (rows_in db) room fit count
    note_is bare note there with =
        let all = all_listed (by_key pair_cmp) (key_total pair_cmp_total)
        (IsWrittenAs note_columns note_of note_written) (λ r. note_of (note_columns r)) (λ e. e.1.count ≡ e.0.1)
        (db note_tree) (all-map _ (λ r. note_of (note_columns r)) (λ r. refl) (db note_tree)) in
        let count_is : bare.count ≡ number = number_is (room, number) (bare_notes_in db) all bare (sym there) in
        let read : note ≡ joined_at (fits_in db) room number bare = with
        ∙ ap (λ n. with_count (fit_of_number fits n) n bare) count_is
        ∙ ap (λ fs. with_count (fit_of_number fs number) number bare) are in
        ap (λ n. of_fit fit (Some n)) read ∙ ap (λ o. of_fit fit (option_map (joined_at (fits_in db) room number) o))
        there ∙ at_number_is
