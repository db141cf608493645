-- The walk over the cards that a party was given.
use Rattle.std.proofs.Common.{◌≡◌, ◌∙◌, refl, ap, ap₂, List, [], ◌∷◌, ℕ, filter, map, nat_cmp, eqb}
use Rattle.std.proofs.lemmas.Cmp.{nat_cmp_total}
use Rattle.std.proofs.lemmas.List.Sorted.{IsPermutation-refl}
use Rattle.sqlite_keyed.proofs.ListLemmas.{ascending-filter}
use Rattle.sqlite.specs.Order.{Row, column}
use Rattle.sqlite.specs.Query.{Query}
use Rattle.sqlite.specs.Term.{col}
use Rattle.sqlite.specs.Tree.{Trees}
use Rattle.keycard_rules.specs.declared.card.Card.{Card}
use Rattle.hotel_model.specs.Refinement.ListsOnRows.{cards_given_on}
use Rattle.hotel_statements.specs.Trees.{card_tree}
use Rattle.hotel_statements.specs.Values.{int}
use Rattle.hotel_statements.specs.Columns.{card_columns, card_row_of, card_of, card_written}
use Rattle.hotel_statements.specs.Tables.{AreTables, IsWrittenAs, by_key, rows_in}
use Rattle.hotel_statements.specs.LookUps.{AnswersAll}
use Rattle.hotel_statements.proofs.Answers.{single, passes}
use Rattle.hotel_statements.proofs.Statements.Terms.{column_is, columns}
use Rattle.hotel_statements.proofs.Keys.{and_true}
use Rattle.hotel_statements.proofs.Keyed.{key_total, column_equals}
use Rattle.hotel_statements.proofs.Risen.{cards_rise}
use Rattle.hotel_statements.proofs.Ordered.{numbered_rows, rising, values_read}
use Rattle.hotel_statements.proofs.OfWalks.Compared.{values_passing}

module _ (db : Trees) (t : AreTables db) where
  abbrev pub given_query : Query
  given_query = single card_tree (column_is 2 0 ∷ []) (columns (0 ∷ 2 ∷ 3 ∷ 4 ∷ [])) (rising (col 1 0))

  given_tests : (party : ℕ) (r : Row) → IsWrittenAs card_columns card_of card_written r
      → passes (column_is 2 0 ∷ []) (int party ∷ []) r ≡ eqb (card_of (card_columns r)).1.party party
  given_tests party r good =
      and_true _ ∙ column_equals (column r 2) (card_of (card_columns r)).1.party party (ap (λ v. column v 1) good)

  pub cards_said : (party : ℕ) (all : List Card)
      → AnswersAll card_row_of given_query (int party ∷ []) db all → all ≡ cards_given_on (rows_in db) party
  cards_said party all a =
      let es = (rows_in db).cards in
      let fs = filter (λ (e : ℕ × Card). eqb e.1.party party) es in
      let rows : a.0 ≡ map card_written fs =
      numbered_rows (by_key nat_cmp) (key_total nat_cmp_total) (IsWrittenAs card_columns card_of card_written)
      (λ r. card_of (card_columns r)) card_tree (column_is 2 0 ∷ []) (columns (0 ∷ 2 ∷ 3 ∷ 4 ∷ [])) (col 1 0)
      (int party ∷ []) (λ e. eqb e.1.party party) (λ e. e.0) card_written db a.0 fs t.card (given_tests party)
      (λ r good. ap₂ (λ v w. (v ∷ [], w)) (ap (λ v. column v 0) good) good)
      (IsPermutation-refl fs) (ascending-filter _ (λ (e : ℕ × Card). eqb e.1.party party) es (cards_rise db t)) a.1 in
      a.2 ∙ ap (map card_row_of) rows
      ∙ values_read nat_cmp nat_cmp_total card_columns card_of card_written card_row_of (λ v. refl) (db card_tree)
      t.card (λ e. eqb e.1.party party) ∙ values_passing (λ card. eqb card.party party) es
