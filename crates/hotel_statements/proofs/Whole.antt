-- What the reading of a whole table answers.
use Rattle.std.proofs.Common.{◌≡◌, refl, sym, ap, ap₂, subst, ◌∙◌, List, [], ◌∷◌, ℕ, ℤ, map, filter, Ordering, Equal}
use Rattle.std.specs.List.{AllByRecursion}
use Rattle.std.specs.Ordering.{int_cmp, ordering_then}
use Rattle.std.specs.List.Sorted.{IsPermutation}
use Rattle.sqlite_keyed.proofs.ListLemmas.{all_of, all_map, filter_all, map_same, map-map}
use Rattle.sqlite_value.specs.declared.value.Value.TheVariants.{Int}
use Rattle.sqlite_value.proofs.OrderLemmas.{value_cmp-Int, value_cmp-Text}
use Rattle.sqlite_value.specs.declared.keys.Collation.TheVariants.{Binary}
use Rattle.sqlite_value.specs.declared.keys.Key.{Key}
use Rattle.sqlite_value.specs.Keys.{ascending}
use Rattle.sqlite.specs.Order.{Row, column, value_cmp}
use Rattle.sqlite.specs.Query.{Query, IsAnswer, Output, output, output_cmp, key_cmp}
use Rattle.sqlite.specs.Program.{overlay}
use Rattle.sqlite.specs.Term.{Term, col, eval_all}
use Rattle.sqlite.specs.Tree.{Trees}
use Rattle.hotel_statements.specs.Trees.{meta_tree, kind_tree, room_tree, stay_tree, code_tree, card_tree, inside_tree}
use Rattle.hotel_statements.specs.Trees.{note_tree, fit_tree}
use Rattle.hotel_statements.specs.Texts as text
use Rattle.hotel_statements.specs.Columns.{meta_columns, kind_columns, room_columns, stay_columns, code_columns}
use Rattle.hotel_statements.specs.Columns.{card_columns, note_columns, fit_columns}
use Rattle.hotel_statements.specs.PlainRows.{numbered_columns, first_one, first_three, first_four, first_seven}
use Rattle.hotel_statements.specs.PlainRows.{first_eight, meta_shown, kind_shown, room_shown, stay_shown, code_shown}
use Rattle.hotel_statements.specs.PlainRows.{card_shown}
use Rattle.hotel_statements.specs.PlainRows.{numbered_shown, note_shown, fit_shown, AreRowsInOrder}
use Rattle.hotel_statements.specs.PlainRows.{meta_order, kind_order, room_order, stay_order, code_order, card_order}
use Rattle.hotel_statements.specs.PlainRows.{numbered_order, note_order, fit_order}
use Rattle.hotel_statements.specs.declared.version.Version.{Version}
use Rattle.hotel_statements.specs.declared.version.Version.TheVariants.{Second}
use Rattle.sqlite.specs.Schema.{Schema}
use Rattle.sqlite_schema.specs.declared.schema.Index.{Index}
use Rattle.hotel_statements.specs.Schema.{HasTablesOf, schema_with}
use Rattle.hotel_statements.specs.LookUps.{AsksOf}
use Rattle.hotel_statements.specs.WholeTables.{IsWhole}
use Rattle.hotel_statements.proofs.Statements.Terms.{columns, all_seven, all_eight}
use Rattle.hotel_statements.proofs.Statements.Reads as reads
use Rattle.hotel_statements.proofs.Answers.{single, env, passes, answered, made_of_shown}
use Rattle.hotel_statements.proofs.InOrder.{in_order_of, sorted_of, shown_in_order}
use Rattle.hotel_statements.proofs.Ordered.{then_nothing}
use Rattle.hotel_statements.proofs.Perm.{every_shuffled}

abbrev pub by_rowid : List (Term × Key)
by_rowid = (col 1 0, ascending Binary) ∷ []

abbrev pub by_first : List (Term × Key)
by_first = (col 1 1, ascending Binary) ∷ []

abbrev pub by_two : List (Term × Key)
by_two = (col 1 1, ascending Binary) ∷ (col 1 2, ascending Binary) ∷ []

module _ {L : Type 0} (tree : ℕ) (project : List Term) (by : List (Term × Key)) (columns cut keys : Row → Row)
    (shown : L → Row) (order : L → L → Ordering) (shows : (r : Row) → eval_all project (env [] r) ≡ columns r)
    (whole : (r : Row) → cut (columns r) ≡ columns r)
    (sorts : (r : Row) → eval_all (map (λ k. k.0) by) (env [] r) ≡ keys (columns r))
    (same : (a b : L) → key_cmp 0 (map (λ k. k.1) by) (keys (shown a)) (keys (shown b)) ≡ order a b) where
  abbrev passing : Trees → List Row
  passing db = filter (passes [] []) (db tree)

  -- the rows that are shown are those of the tree
  are_rows : (db : Trees) (rows : List Row) → IsAnswer (single tree [] project by) (overlay db []) [] rows
      → IsPermutation (map columns (db tree)) (map cut rows)
  are_rows db rows a =
      subst (λ xs. IsPermutation xs (map cut rows))
      (map_same _ columns (λ r. ap cut (shows r) ∙ whole r) (passing db)
      ∙ ap (map columns) (filter_all (passes [] []) (db tree) (all_of _ (λ r. refl) (db tree))))
      (made_of_shown tree [] project by db [] rows cut a)

  -- and plain rows that show them are in the order of their keys
  pub all_rows : (db : Trees) (rows : List Row) (plain_rows : List L)
      → IsAnswer (single tree [] project by) (overlay db []) [] rows → map shown plain_rows ≡ map cut rows
      → AreRowsInOrder columns shown order plain_rows (db tree)
  all_rows db rows plain_rows a is =
      let it = answered tree [] project by db [] rows a in
      let o : Row → Output = λ r. output (single tree [] project by) (env [] r) in
      let HasKeys : Output → Type 0 = λ x. x.0 ≡ keys (cut x.1) in
      let here : (r : Row) → HasKeys (o r) = λ r. sorts r ∙ ap keys (sym (whole r) ∙ ap cut (sym (shows r))) in
      let each : AllByRecursion HasKeys it.ordered = every_shuffled HasKeys _ it.ordered it.same
      (all_map HasKeys o (passing db) (all_of (λ r. HasKeys (o r)) here (passing db))) in
      let values_are : map shown plain_rows ≡ map (λ (x : Output). cut x.1) it.ordered =
      is ∙ ap (map cut) it.shown ∙ map-map cut (λ (x : Output). x.1) it.ordered in (
        subst (IsPermutation (map columns (db tree))) (sym is) (are_rows db rows a),
        sorted_of order plain_rows (shown_in_order (key_cmp 0 (map (λ k. k.1) by)) (λ (x : Output). x.0)
            (λ (x : Output). cut x.1) keys shown order same it.ordered plain_rows values_are each
            (in_order_of (output_cmp (single tree [] project by)) it.ordered it.sorted)),
      )

-- ---- the keys that a statement sorts by, of the columns that it shows

abbrev first_key : Row → Row
first_key v = column v 0 ∷ []

abbrev two_keys : Row → Row
two_keys v = column v 0 ∷ column v 1 ∷ []

-- behind the number of the row
abbrev later_keys : Row → Row
later_keys v = column v 1 ∷ column v 2 ∷ []

by_number : (m n : ℤ) → ordering_then (value_cmp (Int m) (Int n)) Equal ≡ int_cmp m n
by_number m n = then_nothing _ ∙ value_cmp-Int m n

by_numbers : (a b c d : ℤ)
    → ordering_then (value_cmp (Int a) (Int c)) (ordering_then (value_cmp (Int b) (Int d)) Equal)
    ≡ ordering_then (int_cmp a c) (int_cmp b d)
by_numbers a b c d = ap₂ ordering_then (value_cmp-Int a c) (by_number b d)

-- a query of a version's tables, whatever indexes there are
whatever : (version : Version) {text : List ℕ} {q : Query}
    → ((indexes : List Index) → AsksOf (schema_with version indexes) text q) → (schema : Schema)
    → HasTablesOf version schema → AsksOf schema text q
whatever version {text = text} {q = q} asks schema has = subst (λ s. AsksOf s text q) (sym has.1) (asks has.0)

-- ---- the tables that both versions have

pub meta_whole : (version : Version) → IsWhole version text.read_meta meta_tree meta_columns first_three meta_shown
    meta_order
meta_whole version = record {
  query = single meta_tree [] (columns (0 ∷ 2 ∷ 3 ∷ [])) by_rowid;
  asks = whatever version (reads.read_meta version);
  answers =
      all_rows meta_tree (columns (0 ∷ 2 ∷ 3 ∷ [])) by_rowid meta_columns first_three first_key meta_shown meta_order
      (λ r. refl) (λ r. refl) (λ r. refl) (λ a b. by_number a.id b.id);
}

pub kind_whole : (version : Version) → IsWhole version text.read_kind kind_tree kind_columns first_one kind_shown
    kind_order
kind_whole version = record {
  query = single kind_tree [] (columns (1 ∷ [])) by_first;
  asks = whatever version (reads.read_kind version);
  answers =
      all_rows kind_tree (columns (1 ∷ [])) by_first kind_columns first_one first_key kind_shown kind_order
      (λ r. refl) (λ r. refl) (λ r. refl) (λ a b. then_nothing _ ∙ value_cmp-Text _ _);
}

pub room_whole : (version : Version) → IsWhole version text.read_room room_tree room_columns first_seven room_shown
    room_order
room_whole version = record {
  query = single room_tree [] all_seven by_rowid;
  asks = whatever version (reads.read_room version);
  answers =
      all_rows room_tree all_seven by_rowid room_columns first_seven first_key room_shown room_order
      (λ r. refl) (λ r. refl) (λ r. refl) (λ a b. by_number a.room b.room);
}

pub stay_whole : (version : Version) → IsWhole version text.read_stay stay_tree stay_columns first_seven stay_shown
    stay_order
stay_whole version = record {
  query = single stay_tree [] all_seven by_rowid;
  asks = whatever version (reads.read_stay version);
  answers =
      all_rows stay_tree all_seven by_rowid stay_columns first_seven first_key stay_shown stay_order
      (λ r. refl) (λ r. refl) (λ r. refl) (λ a b. by_number a.party b.party);
}

pub code_whole : (version : Version) → IsWhole version text.read_code code_tree code_columns first_three code_shown
    code_order
code_whole version = record {
  query = single code_tree [] (columns (0 ∷ 2 ∷ 3 ∷ [])) by_rowid;
  asks = whatever version (reads.read_code version);
  answers =
      all_rows code_tree (columns (0 ∷ 2 ∷ 3 ∷ [])) by_rowid code_columns first_three first_key code_shown code_order
      (λ r. refl) (λ r. refl) (λ r. refl) (λ a b. by_number a.code b.code);
}

pub card_whole : (version : Version) → IsWhole version text.read_card card_tree card_columns first_four card_shown
    card_order
card_whole version = record {
  query = single card_tree [] (columns (0 ∷ 2 ∷ 3 ∷ 4 ∷ [])) by_rowid;
  asks = whatever version (reads.read_card version);
  answers =
      all_rows card_tree (columns (0 ∷ 2 ∷ 3 ∷ 4 ∷ [])) by_rowid card_columns first_four first_key card_shown card_order
      (λ r. refl) (λ r. refl) (λ r. refl) (λ a b. by_number a.number b.number);
}

pub inside_whole : (version : Version) → IsWhole version text.read_inside inside_tree numbered_columns first_three
    numbered_shown numbered_order
inside_whole version = record {
  query = single inside_tree [] (columns (0 ∷ 1 ∷ 2 ∷ [])) by_two;
  asks = whatever version (reads.read_inside version);
  answers =
      all_rows inside_tree (columns (0 ∷ 1 ∷ 2 ∷ [])) by_two numbered_columns first_three later_keys numbered_shown
      numbered_order (λ r. refl) (λ r. refl) (λ r. refl)
      (λ a b. by_numbers a.plain.room a.plain.card b.plain.room b.plain.card);
}

pub note_whole : (version : Version) → IsWhole version text.read_note note_tree note_columns first_eight note_shown
    note_order
note_whole version = record {
  query = single note_tree [] all_eight by_two;
  asks = whatever version (reads.read_note version);
  answers =
      all_rows note_tree all_eight by_two note_columns first_eight two_keys note_shown note_order
      (λ r. refl) (λ r. refl) (λ r. refl) (λ a b. by_numbers a.room a.n b.room b.n);
}

-- ---- the table of the second version alone

pub fit_whole : IsWhole Second text.read_fit fit_tree fit_columns first_four fit_shown fit_order
fit_whole = record {
  query = single fit_tree [] (columns (1 ∷ 2 ∷ 3 ∷ 4 ∷ [])) by_two;
  asks = whatever Second reads.read_fit;
  answers =
      all_rows fit_tree (columns (1 ∷ 2 ∷ 3 ∷ 4 ∷ [])) by_two fit_columns first_four two_keys fit_shown fit_order
      (λ r. refl) (λ r. refl) (λ r. refl) (λ a b. by_numbers a.room a.fit b.room b.fit);
}
