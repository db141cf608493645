-- The walk over the kinds, by kind.
use Rattle.std.proofs.Common.{◌≡◌, ◌∙◌, refl, ap, List, [], ◌∷◌, ℕ, true, Option, map, Less, nat_cmp}
use Rattle.std.specs.Cmp.Lexicographic.{slice_cmp}
use Rattle.std.proofs.lemmas.Cmp.{nat_list_cmp_total}
use Rattle.sqlite_keyed.proofs.ListLemmas.{map-map, map_same, ascending-map, ascending_weaker}
use Rattle.sqlite_value.proofs.OrderLemmas.{value_cmp-Text}
use Rattle.sqlite_value.specs.declared.value.Value.TheVariants.{Text}
use Rattle.sqlite.specs.Order.{column}
use Rattle.sqlite.specs.Query.{Query, Output, output_cmp}
use Rattle.sqlite.specs.Term.{col}
use Rattle.sqlite.specs.Tree.{Trees, IsAscending}
use Rattle.hotel_model.specs.declared.list_rows.FreeRow.{FreeRow}
use Rattle.hotel_model.specs.Refinement.ListsOnRows.{free_row_on, availability_on}
use Rattle.hotel_books.specs.FreeRows.{free_row_by}
use Rattle.hotel_books.proofs.OfNights.FreeRows.{free_by_rows}
use Rattle.hotel_statements.specs.Trees.{kind_tree}
use Rattle.hotel_statements.specs.Values.{text_of}
use Rattle.hotel_statements.specs.Columns.{kind_columns, kind_of, kind_written}
use Rattle.hotel_statements.specs.Tables.{AreTables, IsWrittenAs, rows_in}
use Rattle.hotel_statements.specs.LookUps.{AnswersAll}
use Rattle.hotel_statements.specs.Walks.{AreCounted, free_row_of}
use Rattle.hotel_statements.proofs.Answers.{single}
use Rattle.hotel_statements.proofs.Statements.Terms.{columns}
use Rattle.hotel_statements.proofs.Risen.{kinds_rise}
use Rattle.hotel_statements.proofs.Ordered.{ordered_rows, rising, then_nothing}
use Rattle.hotel_statements.proofs.OfWalks.Compared.{all_kept}

abbrev pub kinds_query : Query
kinds_query = single kind_tree [] (columns (1 ∷ [])) (rising (col 1 1))

abbrev shown : List ℕ → Output
shown kind = (Text kind ∷ [], Text kind ∷ [])

kind_order : (a b : List ℕ) → slice_cmp nat_cmp a b ≡ Less → output_cmp kinds_query (shown a) (shown b) ≡ Less
kind_order a b less = then_nothing _ ∙ value_cmp-Text a b ∙ less

module _ (db : Trees) (t : AreTables db) where
  -- what is said of each kind
  pub kinds_said : {A : Type 0} (said : List ℕ → A) (all : List A)
      → AnswersAll (λ v. said (text_of (column v 0))) kinds_query [] db all → all ≡ map said (rows_in db).kinds
  kinds_said said all a =
      let kinds = (rows_in db).kinds in
      let up : IsAscending (λ x y. output_cmp kinds_query x y ≡ Less) (map shown kinds) =
      ascending-map _ shown kinds (ascending_weaker _ _ kind_order kinds (kinds_rise db t)) in
      let shows : a.0 ≡ map (λ kind. (shown kind).1) kinds =
      ordered_rows (slice_cmp nat_cmp) nat_list_cmp_total (IsWrittenAs kind_columns kind_of kind_written)
      (λ r. kind_of (kind_columns r)) kind_tree [] (columns (1 ∷ [])) (rising (col 1 1)) [] (λ _. true) shown db a.0
      kinds t.kind (λ r good. refl) (λ r good. ap (λ v. (column v 0 ∷ [], column v 0 ∷ [])) good) (all_kept kinds) up
      a.1 in
      a.2 ∙ ap (map (λ v. said (text_of (column v 0)))) shows
      ∙ map-map (λ v. said (text_of (column v 0))) (λ kind. (shown kind).1) kinds

  -- what is free of each, by the counts beside the tables
  pub free_said : (kinds : List (List ℕ × ℕ)) (nights : List ((List ℕ × ℕ) × List ℕ))
      → AreCounted kinds nights (rows_in db) → (today : Option ℕ) → today ≡ (rows_in db).day → (d n : ℕ)
      → (all : List FreeRow) → AnswersAll (free_row_of kinds nights today d n) kinds_query [] db all
      → all ≡ availability_on (rows_in db) d n
  free_said kinds nights counted today is d n all answers =
      kinds_said (free_row_by kinds nights today d n) all answers
      ∙ map_same (free_row_by kinds nights today d n) (free_row_on (rows_in db) d n)
      (λ kind. free_by_rows kinds nights (rows_in db) today d n kind is (counted.rooms kind) counted.stays)
      (rows_in db).kinds
