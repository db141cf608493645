-- The rows of a room in a table by room and number, in the order of the numbers: its fits, and its notes with their
-- fits.
use Rattle.std.proofs.Common.{◌≡◌, inl, inr, refl, sym, ap, ap₂, ◌∙◌, List, [], ◌∷◌, ℕ}
use Rattle.std.proofs.Common.{Bool, cond, Some, map, filter, arith, Less, eqb}
use Rattle.std.specs.List.{AllByRecursion}
use Rattle.std.specs.Map.{lookup}
use Rattle.std.specs.BTreeMap.{is_at}
use Rattle.std.proofs.lemmas.Bool.{cases_Bool}
use Rattle.std.proofs.lemmas.Bool.Decides.{nat_tests}
use Rattle.std.proofs.lemmas.List.Sorted.{IsPermutation-refl}
use Rattle.sqlite_keyed.proofs.ListLemmas.{all_weaker, all-map, map-map, all-filter}
use Rattle.sqlite_value.specs.declared.keys.Key.{Key}
use Rattle.sqlite.specs.Order.{Row, column}
use Rattle.sqlite.specs.Query.{Query, IsAnswer}
use Rattle.sqlite.specs.Program.{overlay}
use Rattle.sqlite.specs.Term.{Term, col, eval_all}
use Rattle.sqlite.specs.Tree.{Trees, IsAscending}
use Rattle.keycard_rules.specs.Note.{Note}
use Rattle.hotel_model.specs.declared.rows.FitRow.{FitRow}
use Rattle.hotel_model.specs.Words.{pair_cmp}
use Rattle.hotel_model.specs.Rows.{notes_at, fits_at, fit_at}
use Rattle.hotel_model.proofs.OfTables.Pairs.{pair_cmp_total, pair_is}
use Rattle.hotel_rows.specs.Joined.{with_count, fit_of_number, under_fit, FitEntries}
use Rattle.hotel_statements.specs.Trees.{note_tree, fit_tree}
use Rattle.hotel_statements.specs.Values.{int}
use Rattle.hotel_statements.specs.Columns.{note_columns, note_row_of, note_of, note_written, fit_columns, fit_row_of}
use Rattle.hotel_statements.specs.Columns.{fit_of, fit_written}
use Rattle.hotel_statements.specs.Tables.{AreTables, IsTable, IsWrittenAs, by_key, in_key_order, rows_in, fits_in}
use Rattle.hotel_statements.specs.Tables.{bare_notes_in}
use Rattle.hotel_statements.specs.LookUps.{AnswersAll, numbered_fit}
use Rattle.hotel_statements.specs.Walks.{note_under}
use Rattle.hotel_statements.proofs.Found.{map_all}
use Rattle.hotel_statements.proofs.Answers.{single, env}
use Rattle.hotel_statements.proofs.Statements.Terms.{column_is, columns, all_eight}
use Rattle.hotel_statements.proofs.Keys.{and_true}
use Rattle.hotel_statements.proofs.Perm.{sort_rises}
use Rattle.hotel_statements.proofs.Keyed.{key_total, column_equals}
use Rattle.hotel_statements.proofs.Ordered.{numbered_rows, all_listed, rising, room_rises, reads_back, values_read}

abbrev pub by_count : List (Term × Key)
by_count = rising (col 1 2)

abbrev pub is_in : {V : Type 0} → ℕ → (ℕ × ℕ) × V → Bool
is_in room e = eqb e.0.0 room

-- the rows of a room, in order, as a query of one table shows them
module _ {V : Type 0} (tree : ℕ) (project : List Term) (columns : Row → Row) (of : Row → (ℕ × ℕ) × V)
    (written : (ℕ × ℕ) × V → Row) (room : ℕ) (db : Trees)
    (first : (r : Row) → IsWrittenAs columns of written r → column r 1 ≡ int (of (columns r)).0.0)
    (second : (r : Row) → IsWrittenAs columns of written r → column r 2 ≡ int (of (columns r)).0.1)
    (shows : (r : Row) → eval_all project (env (int room ∷ []) r) ≡ columns r) where
  pub in_order : IsTable (by_key pair_cmp) columns of written (db tree) → (rows : List Row)
      → IsAnswer (single tree (column_is 1 0 ∷ []) project by_count) (overlay db []) (int room ∷ []) rows
      → rows ≡ map written (filter (is_in room) (in_key_order (by_key pair_cmp) (λ r. of (columns r)) (db tree)))
  in_order table rows answer =
      let es = in_key_order (by_key pair_cmp) (λ r. of (columns r)) (db tree) in
      let rises : IsAscending (λ x y. by_key pair_cmp x y ≡ Less) es = sort_rises (by_key pair_cmp)
      (key_total pair_cmp_total) _ table.apart in
      let fs = filter (is_in room) es in
      numbered_rows (by_key pair_cmp) (key_total pair_cmp_total) (IsWrittenAs columns of written)
      (λ r. of (columns r)) tree (column_is 1 0 ∷ []) project (col 1 2) (int room ∷ []) (is_in room) (λ e. e.0.1)
      written db rows fs table (λ r good. and_true _ ∙ column_equals (column r 1) _ room (first r good))
      (λ r good. ap₂ (λ v w. (v ∷ [], w)) (second r good) (shows r ∙ good)) (IsPermutation-refl fs)
      (room_rises (λ (e : (ℕ × ℕ) × V). e.0) room es rises) answer

-- ---- the fits of a room

abbrev pub fits_query : Query
fits_query = single fit_tree (column_is 1 0 ∷ []) (columns (1 ∷ 2 ∷ 3 ∷ 4 ∷ [])) by_count

pub fits_listed : (room : ℕ) (es : FitEntries) → map (λ (e : (ℕ × ℕ) × FitRow). e.1) (filter (is_in room) es)
    ≡ fits_at es room
fits_listed room [] = refl
fits_listed room (e ∷ es) = elim (cases_Bool (is_in room e)) [
  | inl is ↦ rw is (ap (λ xs. e.1 ∷ xs) (fits_listed room es))
  | inr other ↦ rw other (fits_listed room es)
]

pub fits_find : (db : Trees) → AreTables db → (room : ℕ) (all : List FitRow)
    → AnswersAll fit_row_of fits_query (int room ∷ []) db all → all ≡ fits_at (fits_in db) room
fits_find db t room all a =
    let es = fits_in db in
    let fs = filter (is_in room) es in
    let rows : a.0 ≡ map fit_written fs =
    in_order fit_tree (columns (1 ∷ 2 ∷ 3 ∷ 4 ∷ [])) fit_columns fit_of fit_written room db
    (λ r good. ap (λ v. column v 0) good) (λ r good. ap (λ v. column v 1) good) (λ r. refl) t.fit a.0 a.1 in
    a.2 ∙ ap (map fit_row_of) rows
    ∙ values_read pair_cmp pair_cmp_total fit_columns fit_of fit_written fit_row_of (λ v. refl) (db fit_tree) t.fit
    (is_in room) ∙ fits_listed room es

-- a fit of a room by its number is the first of the room's that has it
numbered : (room number : ℕ) (es : FitEntries)
    → AllByRecursion (λ (e : (ℕ × ℕ) × FitRow). e.1.fit ≡ e.0.1) es → lookup (is_at (pair_cmp (room, number))) es
    ≡ numbered_fit (fits_at es room) number
numbered room number [] all = refl
numbered room number (e ∷ es) all =
    ap (λ b. cond b (Some e.1) (lookup (is_at (pair_cmp (room, number))) es)) (pair_is room number e.0)
    ∙ elim (cases_Bool (eqb e.0.0 room)) [
      | inl at ↦ rw at (ap₂ (λ n rest. cond (eqb n number) (Some e.1) rest) (sym all.0) (numbered room number es all.1))
      | inr other ↦ rw other (numbered room number es all.1)
    ]

pub fit_numbered : (db : Trees) (room number : ℕ) → fit_at (rows_in db) room number
    ≡ numbered_fit (fits_at (fits_in db) room) number
fit_numbered db room number =
    numbered room number (fits_in db) (all_listed (by_key pair_cmp) (key_total pair_cmp_total)
    (IsWrittenAs fit_columns fit_of fit_written) (λ r. fit_of (fit_columns r)) (λ e. e.1.fit ≡ e.0.1) (db fit_tree)
    (all-map _ (λ r. fit_of (fit_columns r)) (λ r. refl) (db fit_tree)))

-- ---- the notes of a room

abbrev pub audit_query : Query
audit_query = single note_tree (column_is 1 0 ∷ []) all_eight by_count

-- a note with its fit and count, in a room that has these fits
abbrev noted : List FitRow → (ℕ × ℕ) × Note → Note
noted fits e = with_count (fit_of_number fits e.0.1) e.0.1 e.1

notes_listed : (fits : FitEntries) (room : ℕ) (es : List ((ℕ × ℕ) × Note))
    → map (noted (fits_at fits room)) (filter (is_in room) es) ≡ notes_at (map (under_fit fits) es) room
notes_listed fits room [] = refl
notes_listed fits room (e ∷ es) = elim (cases_Bool (is_in room e)) [
  | inl is ↦
      let same : room ≡ e.0.0 = grind (arith, nat_tests, is) in
      rw is (ap₂ (λ r xs. noted (fits_at fits r) e ∷ xs) same (notes_listed fits room es))
  | inr other ↦ rw other (notes_listed fits room es)
]

pub notes_said : (db : Trees) → AreTables db → (room : ℕ) (fits : List FitRow) → fits ≡ fits_at (fits_in db) room
    → (all : List Note) → AnswersAll (note_under fits) audit_query (int room ∷ []) db all
    → all ≡ notes_at (rows_in db).notes room
notes_said db t room fits are all a =
    let es = bare_notes_in db in
    let fs = filter (is_in room) es in
    let rows : a.0 ≡ map note_written fs =
    in_order note_tree all_eight note_columns note_of note_written room db (λ r good. ap (λ v. column v 0) good)
    (λ r good. ap (λ v. column v 1) good) (λ r. refl) t.note a.0 a.1 in
    let reads = all-filter _ (is_in room) es (reads_back pair_cmp pair_cmp_total note_columns note_of note_written
    note_row_of (λ v. refl) (db note_tree) t.note) in
    a.2 ∙ ap (map (note_under fits)) rows ∙ map-map (note_under fits) note_written fs
    ∙ map_all (λ e. note_under fits (note_written e)) (noted fits) fs
    (all_weaker (λ (e : (ℕ × ℕ) × Note). note_row_of (note_written e) ≡ e.1) _
    (λ e read. ap (with_count (fit_of_number fits e.0.1) e.0.1) read) fs reads)
    ∙ ap (λ f. map (noted f) fs) are ∙ notes_listed (fits_in db) room es
