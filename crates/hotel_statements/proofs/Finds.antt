-- What each look-up of the books finds in its table.
use Rattle.std.proofs.Common.{◌≡◌, ◌&&◌, refl, ap, ap₂, ◌∙◌, List, [], ◌∷◌, ℕ, None, Some, Option, not, eqb}
use Rattle.std.proofs.Common.{nat_cmp, inl, inr}
use Rattle.std.specs.Prelude.{is_some, unwrap_or, option_map, bytes_eq}
use Rattle.std.specs.List.{list_any}
use Rattle.std.specs.Cmp.Lexicographic.{slice_cmp}
use Rattle.std.specs.Map.{lookup}
use Rattle.std.specs.BTreeMap.{is_at}
use Rattle.std.proofs.lemmas.Map.Made.{is_some-lookup}
use Rattle.std.proofs.lemmas.Bool.{cases_Bool}
use Rattle.std.proofs.lemmas.Cmp.{nat_list_cmp_total}
use Rattle.sqlite_keyed.proofs.SliceLemmas.{list_any_same}
use Rattle.sqlite_keyed.proofs.ListLemmas.{all_of}
use Rattle.sqlite_value.specs.declared.value.Value.TheVariants.{Text}
use Rattle.sqlite_value.specs.declared.keys.Collation.TheVariants.{Binary}
use Rattle.sqlite_sql.specs.declared.ops.BinaryOp.TheVariants.{Compare}
use Rattle.sqlite_sql.specs.declared.ops.CompareOp.TheVariants.{Eq}
use Rattle.sqlite.specs.Ops.{binary, is_true}
use Rattle.sqlite.specs.Order.{Row, column}
use Rattle.sqlite.specs.Tree.{Trees}
use Rattle.keycard_rules.specs.declared.card.Card.{Card}
use Rattle.keycard_rules.specs.Note.{Note}
use Rattle.hotel_nights.specs.declared.stay.Stay.{Stay}
use Rattle.hotel_model.specs.declared.rows.RoomRow.{RoomRow}
use Rattle.hotel_model.specs.declared.rows.CodeRow.{CodeRow}
use Rattle.hotel_model.specs.declared.rows.FitRow.{FitRow}
use Rattle.hotel_model.specs.Words.{pair_cmp, is_one_of, said_of}
use Rattle.hotel_model.specs.Guests.{those_in, are_none}
use Rattle.hotel_model.specs.Rows.{Rows, has_kind, at_number, fit_at}
use Rattle.hotel_model.specs.Refinement.Lookups.{codes_in, code_place, stay_at, card_at, inside_at}
use Rattle.hotel_model.proofs.OfTables.Pairs.{pair_cmp_total}
use Rattle.hotel_statements.specs.Trees.{meta_tree, kind_tree, room_tree, stay_tree, code_tree, card_tree, inside_tree}
use Rattle.hotel_statements.specs.Trees.{note_tree, fit_tree}
use Rattle.hotel_statements.specs.Values.{number_of, option_of, text_of, int}
use Rattle.hotel_statements.specs.Columns.{meta_columns, meta_written, kind_columns, kind_of, kind_written}
use Rattle.hotel_statements.specs.Columns.{room_columns, room_row_of, room_written, stay_columns, stay_row_of}
use Rattle.hotel_statements.specs.Columns.{stay_written}
use Rattle.hotel_statements.specs.Columns.{code_columns, code_row_of, code_written, card_columns, card_row_of}
use Rattle.hotel_statements.specs.Columns.{card_written, inside_columns, inside_of, inside_written, note_columns}
use Rattle.hotel_statements.specs.Columns.{note_row_of, note_written, fit_columns, fit_row_of, fit_written}
use Rattle.hotel_statements.specs.Tables.{AreTables, IsWrittenAs, rows_in, metas_in, bare_rooms_in, bare_notes_in}
use Rattle.hotel_statements.specs.LookUps.{AnswersFirst}
use Rattle.hotel_statements.proofs.Answers.{single, passes}
use Rattle.hotel_statements.proofs.Statements.Terms.{by_rowid, by_pair, column_is, columns, all_seven, all_eight}
use Rattle.hotel_statements.proofs.Keys.{equals_text, and_true, is_key}
use Rattle.hotel_statements.proofs.Found.{found_rows, some_found}
use Rattle.hotel_statements.proofs.Keyed.{by_number, by_two, same_option, column_equals}

-- a code was issued where it is found
pub issued_where_found : (k : ℕ) (rows : Rows) → is_some (code_place rows k) ≡ is_one_of k (codes_in rows)
issued_where_found k rows = is_some-lookup (is_at (nat_cmp k)) rows.codes
    ∙ list_any_same (is_at (nat_cmp k)) (λ m. eqb m k) (codes_in rows) (all_of _ (is_key k) (codes_in rows))

module _ (db : Trees) (t : AreTables db) where
  -- a room, a note and a fit, as their tables have them
  pub room_finds : (k : ℕ) (o : Option RoomRow) → AnswersFirst room_row_of (single room_tree by_rowid all_seven [])
      (int k ∷ []) db o → o ≡ at_number (bare_rooms_in db) k
  room_finds k o a = by_number room_tree all_seven room_columns room_row_of room_written k db room_row_of (λ v. v)
      (λ r. refl) (λ e. refl) (λ r. refl) t.room o a ∙ same_option _

  pub stay_finds : (k : ℕ) (o : Option Stay)
      → AnswersFirst stay_row_of (single stay_tree by_rowid all_seven []) (int k ∷ []) db o → o ≡ stay_at (rows_in db) k
  stay_finds k o a = by_number stay_tree all_seven stay_columns stay_row_of stay_written k db stay_row_of (λ v. v)
      (λ r. refl) (λ e. refl) (λ r. refl) t.stay o a ∙ same_option _

  pub code_finds : (k : ℕ) (o : Option CodeRow)
      → AnswersFirst code_row_of (single code_tree by_rowid (columns (0 ∷ 2 ∷ 3 ∷ [])) []) (int k ∷ []) db o
      → o ≡ code_place (rows_in db) k
  code_finds k o a = by_number code_tree (columns (0 ∷ 2 ∷ 3 ∷ [])) code_columns code_row_of code_written k db
      code_row_of (λ v. v) (λ r. refl) (λ e. refl) (λ r. refl) t.code o a
      ∙ same_option _

  pub card_finds : (k : ℕ) (o : Option Card)
      → AnswersFirst card_row_of (single card_tree by_rowid (columns (0 ∷ 2 ∷ 3 ∷ 4 ∷ [])) []) (int k ∷ []) db o
      → o ≡ card_at (rows_in db) k
  card_finds k o a = by_number card_tree (columns (0 ∷ 2 ∷ 3 ∷ 4 ∷ [])) card_columns card_row_of card_written k db
      card_row_of (λ v. v) (λ r. refl) (λ e. refl) (λ r. refl) t.card o a
      ∙ same_option _

  pub note_finds : (a b : ℕ) (o : Option Note) → AnswersFirst note_row_of (single note_tree (by_pair 1 2) all_eight [])
      (int a ∷ int b ∷ []) db o → o ≡ lookup (is_at (pair_cmp (a, b))) (bare_notes_in db)
  note_finds a b o answers = by_two note_tree all_eight note_columns note_row_of note_written a b db (λ r. refl)
      (λ r. refl) (λ e. (refl, refl)) (λ r. refl) t.note o answers

  pub fit_finds : (a b : ℕ) (o : Option FitRow) → AnswersFirst fit_row_of
      (single fit_tree (by_pair 1 2) (columns (1 ∷ 2 ∷ 3 ∷ 4 ∷ [])) []) (int a ∷ int b ∷ []) db o → o
      ≡ fit_at (rows_in db) a b
  fit_finds a b o answers = by_two fit_tree (columns (1 ∷ 2 ∷ 3 ∷ 4 ∷ [])) fit_columns fit_row_of fit_written a b db
      (λ r. refl) (λ r. refl) (λ e. (refl, refl)) (λ r. refl) t.fit o answers

  -- the day, where the row of meta is there
  flat : {V : Type 0} (f : V → Option ℕ) (m : Option V) (o : Option (Option ℕ))
      → o ≡ option_map f m → unwrap_or o None ≡ said_of m None f
  flat f None o is = ap (λ w. unwrap_or w None) is
  flat f (Some v) o is = ap (λ w. unwrap_or w None) is

  pub day_finds : (o : Option (Option ℕ))
      → AnswersFirst (λ v. option_of (column v 0)) (single meta_tree by_rowid (columns (3 ∷ [])) []) (int 1 ∷ []) db o
      → unwrap_or o None ≡ (rows_in db).day
  day_finds o a =
      flat (λ (m : ℕ × Option ℕ). m.1) (at_number (metas_in db) 1) o
      (by_number meta_tree (columns (3 ∷ [])) meta_columns (λ v. (number_of (column v 1), option_of (column v 2)))
      meta_written 1 db (λ v. option_of (column v 0))
      (λ (m : ℕ × Option ℕ). m.1) (λ r. refl) (λ e. refl) (λ r. refl) t.meta o a)

  -- a kind
  kind_tests : (kind : List ℕ) (r : Row) → IsWrittenAs kind_columns kind_of kind_written r
      → passes (column_is 1 0 ∷ []) (Text kind ∷ []) r ≡ bytes_eq (kind_of (kind_columns r)) kind
  kind_tests kind r good =
      let key : column r 1 ≡ Text (kind_of (kind_columns r)) = ap (λ v. column v 0) good in
      and_true _ ∙ ap (λ v. is_true (binary (Compare Eq Binary) v (Text kind))) key
      ∙ equals_text (kind_of (kind_columns r)) kind

  pub kind_finds : (kind : List ℕ) (o : Option (List ℕ))
      → AnswersFirst (λ v. text_of (column v 0)) (single kind_tree (column_is 1 0 ∷ []) (columns (1 ∷ [])) [])
      (Text kind ∷ []) db o
      → is_some o ≡ has_kind (rows_in db) kind
  kind_finds kind o a = some_found (λ v. text_of (column v 0)) (λ k. k)
      (single kind_tree (column_is 1 0 ∷ []) (columns (1 ∷ [])) []) (Text kind ∷ []) db (λ k. bytes_eq k kind)
      (rows_in db).kinds
      (λ rows answer. found_rows (slice_cmp nat_cmp) nat_list_cmp_total (IsWrittenAs kind_columns kind_of kind_written)
      (λ r. kind_of (kind_columns r)) kind_tree (column_is 1 0 ∷ [])
      (columns (1 ∷ [])) [] (Text kind ∷ []) (λ k. bytes_eq k kind) (λ v. text_of (column v 0)) (λ k. k) db rows
      t.kind (kind_tests kind) (λ r. refl) answer) o a

  -- a card inside a room, and any
  pub room_tests : (room : ℕ) (r : Row) → IsWrittenAs inside_columns inside_of inside_written r
      → passes (column_is 1 0 ∷ []) (int room ∷ []) r ≡ eqb (inside_of (inside_columns r)).0 room
  room_tests room r good = and_true _ ∙ column_equals (column r 1) _ room (ap (λ v. column v 0) good)

  pair_tests : (room card : ℕ) (r : Row) → IsWrittenAs inside_columns inside_of inside_written r
      → passes (by_pair 1 2) (int room ∷ int card ∷ []) r
      ≡ (eqb (inside_of (inside_columns r)).0 room && eqb (inside_of (inside_columns r)).1 card)
  pair_tests room card r good =
      ap₂ (λ x y. x && y) (column_equals (column r 1) _ room (ap (λ v. column v 0) good))
      (and_true _ ∙ column_equals (column r 2) _ card (ap (λ v. column v 1) good))

  one_of_those : (room card : ℕ) (es : List (ℕ × ℕ))
      → list_any (λ (e : ℕ × ℕ). eqb e.0 room && eqb e.1 card) es ≡ is_one_of card (those_in es room)
  one_of_those room card [] = refl
  one_of_those room card (e ∷ es) = elim (cases_Bool (eqb e.0 room)) [
    | inl is ↦ rw (is, one_of_those room card es) refl
    | inr other ↦ rw (other, one_of_those room card es) refl
  ]

  some_of_those : (room : ℕ) (es : List (ℕ × ℕ))
      → list_any (λ (e : ℕ × ℕ). eqb e.0 room) es ≡ not (are_none (those_in es room))
  some_of_those room [] = refl
  some_of_those room (e ∷ es) = elim (cases_Bool (eqb e.0 room)) [
    | inl is ↦ rw is refl
    | inr other ↦ rw (other, some_of_those room es) refl
  ]

  pub inside_finds : (room card : ℕ) (o : Option ℕ)
      → AnswersFirst (λ v. number_of (column v 0)) (single inside_tree (by_pair 1 2) (columns (2 ∷ [])) [])
      (int room ∷ int card ∷ []) db o
      → is_some o ≡ is_one_of card (inside_at (rows_in db) room)
  inside_finds room card o a = some_found (λ v. number_of (column v 0)) (λ (e : ℕ × ℕ). e.1)
      (single inside_tree (by_pair 1 2) (columns (2 ∷ [])) []) (int room ∷ int card ∷ []) db
      (λ (e : ℕ × ℕ). eqb e.0 room && eqb e.1 card) (rows_in db).inside
      (λ rows answer. found_rows pair_cmp pair_cmp_total (IsWrittenAs inside_columns inside_of inside_written)
      (λ r. inside_of (inside_columns r)) inside_tree (by_pair 1 2)
      (columns (2 ∷ [])) [] (int room ∷ int card ∷ []) (λ (e : ℕ × ℕ). eqb e.0 room && eqb e.1 card)
      (λ v. number_of (column v 0)) (λ (e : ℕ × ℕ). e.1) db rows t.inside (pair_tests room card) (λ r. refl) answer) o a
      ∙ one_of_those room card (rows_in db).inside

  pub any_inside_finds : (room : ℕ) (o : Option ℕ)
      → AnswersFirst (λ v. number_of (column v 0)) (single inside_tree (column_is 1 0 ∷ []) (columns (2 ∷ [])) [])
      (int room ∷ []) db o
      → is_some o ≡ not (are_none (inside_at (rows_in db) room))
  any_inside_finds room o a = some_found (λ v. number_of (column v 0)) (λ (e : ℕ × ℕ). e.1)
      (single inside_tree (column_is 1 0 ∷ []) (columns (2 ∷ [])) []) (int room ∷ []) db
      (λ (e : ℕ × ℕ). eqb e.0 room) (rows_in db).inside
      (λ rows answer. found_rows pair_cmp pair_cmp_total (IsWrittenAs inside_columns inside_of inside_written)
      (λ r. inside_of (inside_columns r)) inside_tree (column_is 1 0 ∷ [])
      (columns (2 ∷ [])) [] (int room ∷ []) (λ (e : ℕ × ℕ). eqb e.0 room)
      (λ v. number_of (column v 0)) (λ (e : ℕ × ℕ). e.1) db rows t.inside (room_tests room) (λ r. refl) answer) o a
      ∙ some_of_those room (rows_in db).inside
