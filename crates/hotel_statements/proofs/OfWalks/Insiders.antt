-- The walk over the cards inside rooms, each with the party that it was given to.
use Rattle.std.proofs.Common.{if◌then◌else◌, ◌≡◌, ◌∙◌, refl, sym, ap, ap₂, subst, List, [], ◌∷◌, ℕ, Option, Some}
use Rattle.std.proofs.Common.{None, map, flat_map, Less, nat_cmp, eqb}
use Rattle.std.specs.Prelude.{filter_map, option_map}
use Rattle.std.specs.List.{list_all}
use Rattle.std.specs.Option.{option_to_list}
use Rattle.std.specs.BTreeMap.{is_at}
use Rattle.std.specs.Ordering.{ordering_then}
use Rattle.std.specs.List.Sorted.{IsPermutation}
use Rattle.std.proofs.lemmas.Cmp.{nat_cmp_total}
use Rattle.std.proofs.lemmas.List.Concat.{flat_map_single}
use Rattle.sqlite_keyed.proofs.ListLemmas.{map-map, ascending-map, ascending_weaker, flat_map_same_on}
use Rattle.sqlite_value.specs.declared.keys.Collation.TheVariants.{Binary}
use Rattle.sqlite_value.specs.declared.keys.Key.{Key}
use Rattle.sqlite_value.specs.Keys.{ascending}
use Rattle.sqlite_sql.specs.declared.ops.BinaryOp.TheVariants.{Compare}
use Rattle.sqlite_sql.specs.declared.ops.CompareOp.TheVariants.{Eq}
use Rattle.sqlite.specs.Ops.{binary, is_true}
use Rattle.sqlite.specs.Order.{Row, column}
use Rattle.sqlite.specs.Query.{Query, Join, inner, end, Output, output, output_cmp, matches}
use Rattle.sqlite.specs.Program.{overlay}
use Rattle.sqlite.specs.Term.{Term, col, holds}
use Rattle.sqlite.specs.Tree.{Trees, IsAscending}
use Rattle.keycard_rules.specs.declared.card.Card.{Card}
use Rattle.hotel_model.specs.declared.list_rows.InsideRow.{InsideRow}
use Rattle.hotel_model.specs.Words.{pair_cmp}
use Rattle.hotel_model.specs.Rows.{Rows, InsideKey}
use Rattle.hotel_model.specs.Refinement.ListsOnRows.{inside_row_on, cards_inside_on}
use Rattle.hotel_model.specs.Refinement.Lookups.{card_at}
use Rattle.hotel_model.proofs.OfTables.Pairs.{pair_cmp_total}
use Rattle.hotel_statements.specs.Trees.{card_tree, inside_tree}
use Rattle.hotel_statements.specs.Schema.{compare}
use Rattle.hotel_statements.specs.Values.{int}
use Rattle.hotel_statements.specs.Columns.{card_columns, card_of, card_written, inside_columns, inside_of}
use Rattle.hotel_statements.specs.Columns.{inside_written}
use Rattle.hotel_statements.specs.Tables.{AreTables, IsWrittenAs, by_key, rows_in}
use Rattle.hotel_statements.specs.LookUps.{AnswersAll}
use Rattle.hotel_statements.specs.Walks.{inside_row_of}
use Rattle.hotel_statements.proofs.Risen.{cards_rise, insides_rise}
use Rattle.hotel_statements.proofs.Keys.{equals, and_true, is_key}
use Rattle.hotel_statements.proofs.Keyed.{key_total}
use Rattle.hotel_statements.proofs.Found.{one_entry}
use Rattle.hotel_statements.proofs.Ordered.{int_order, then_nothing}
use Rattle.hotel_statements.proofs.OfWalks.Joined.{over, sorted_answer, one_more_table, last_table, where_it_passes}
use Rattle.hotel_statements.proofs.OfWalks.Joined.{made_of_each, rise_alike, made_alike}

abbrev test : List Term
test = compare Eq (col 2 0) (col 1 2) ∷ []

abbrev project : List Term
project = col 1 1 ∷ col 1 2 ∷ col 2 2 ∷ []

abbrev order : List (Term × Key)
order = (col 1 1, ascending Binary) ∷ (col 1 2, ascending Binary) ∷ []

abbrev tables : Join
tables = inner inside_tree (inner card_tree end)

abbrev pub inside_query : Query
inside_query = over tables test project order

-- a card inside a room, and the card's row
abbrev Inside : Type 0
Inside = InsideKey × Card

abbrev shown : Inside → Output
shown y = (int y.0.0 ∷ int y.0.1 ∷ [], int y.0.0 ∷ int y.0.1 ∷ int y.1.party ∷ [])

abbrev from_columns : Row → Row → Output
from_columns ic cc = (column ic 0 ∷ column ic 1 ∷ [], column ic 0 ∷ column ic 1 ∷ column cc 1 ∷ [])

-- the order by room and card
pair_order : (a b : Inside) → pair_cmp a.0 b.0 ≡ Less → output_cmp inside_query (shown a) (shown b) ≡ Less
pair_order a b less =
    ap₂ ordering_then (int_order a.0.0 b.0.0) (then_nothing _ ∙ int_order a.0.1 b.0.1) ∙ less

module _ (db : Trees) (t : AreTables db) where
  abbrev rows : Rows
  rows = rows_in db

  abbrev pairs_of : InsideKey → List Output
  pairs_of e = flat_map (λ (x : ℕ × Card). if eqb x.0 e.1 then shown (e, x.1) ∷ [] else []) rows.cards

  tests_there : (r c : Row) → IsWrittenAs inside_columns inside_of inside_written r
      → IsWrittenAs card_columns card_of card_written c
      → list_all (holds ([] ∷ r ∷ c ∷ [])) test ≡ eqb (card_of (card_columns c)).0 (inside_of (inside_columns r)).1
  tests_there r c inside card =
      and_true _
      ∙ ap₂ (λ v w. is_true (binary (Compare Eq Binary) v w)) (ap (λ v. column v 0) card) (ap (λ v. column v 1) inside)
      ∙ equals (card_of (card_columns c)).0 (inside_of (inside_columns r)).1

  shows : (r c : Row) → IsWrittenAs inside_columns inside_of inside_written r
      → IsWrittenAs card_columns card_of card_written c
      → output inside_query ([] ∷ r ∷ c ∷ []) ≡ shown (inside_of (inside_columns r), (card_of (card_columns c)).1)
  shows r c inside card = ap₂ from_columns inside card

  matched : IsPermutation (map (output inside_query) (matches (overlay db []) test tables ([] ∷ [])))
      (flat_map pairs_of rows.inside)
  matched =
      one_more_table db test inside_query pair_cmp pair_cmp_total
      (IsWrittenAs inside_columns inside_of inside_written) (λ r. inside_of (inside_columns r)) inside_tree
      (inner card_tree end) ([] ∷ []) pairs_of t.inside.good (λ r inside.
      one_more_table db test inside_query (by_key nat_cmp) (key_total nat_cmp_total)
      (IsWrittenAs card_columns card_of card_written) (λ c. card_of (card_columns c)) card_tree end ([] ∷ r ∷ [])
      (λ x. if eqb x.0 (inside_of (inside_columns r)).1 then shown (inside_of (inside_columns r), x.1) ∷ [] else [])
      t.card.good (λ c card.
      last_table db test inside_query ([] ∷ r ∷ c ∷ []) _ _ (tests_there r c inside card) (shows r c inside card)))

  -- each has one card at most
  abbrev pair : InsideKey → Option Inside
  pair e = option_map (λ card. (e, card)) (card_at rows e.1)

  one_pair : (e : InsideKey) → pairs_of e ≡ map shown (option_to_list (pair e))
  one_pair e =
      flat_map_same_on _ _ (λ (x : ℕ × Card). ap (λ b. if b then shown (e, x.1) ∷ [] else []) (sym (is_key e.1 x.0)))
      rows.cards
      ∙ where_it_passes (λ (x : ℕ × Card). is_at (nat_cmp e.1) x.0) (λ x. shown (e, x.1) ∷ []) rows.cards
      ∙ flat_map_single (λ (x : ℕ × Card). shown (e, x.1)) _
      ∙ sym (map-map (λ card. shown (e, card)) (λ (x : ℕ × Card). x.1) _)
      ∙ ap (map (λ card. shown (e, card))) (one_entry nat_cmp nat_cmp_total e.1 rows.cards (cards_rise db t))
      ∙ mapped (card_at rows e.1)
    where
      mapped : (o : Option Card) → map (λ card. shown (e, card)) (option_to_list o)
          ≡ map shown (option_to_list (option_map (λ card. (e, card)) o))
      mapped None = refl
      mapped (Some card) = refl

  all_pairs : (es : List InsideKey) → flat_map pairs_of es ≡ map shown (filter_map pair es)
  all_pairs es = flat_map_same_on _ _ one_pair es ∙ made_of_each pair shown es

  of_key : (e : InsideKey) (y : Inside) → pair e ≡ Some y → y.0 ≡ e
  of_key e y is = at (card_at rows e.1) is
    where
      at : (o : Option Card) → option_map (λ card. (e, card)) o ≡ Some y → y.0 ≡ e
      at None is = absurd cc
      at (Some card) is = let same : (e, card) ≡ y = cc in sym (ap (λ (z : Inside). z.0) same)

  says : (e : InsideKey) → option_map (λ y. inside_row_of (shown y).1) (pair e) ≡ inside_row_on rows e
  says e = by (card_at rows e.1)
    where
      by : (o : Option Card) → option_map (λ y. inside_row_of (shown y).1) (option_map (λ card. (e, card)) o)
          ≡ option_map (λ card. let r : InsideRow = record { room = e.0; card = e.1; party = card.party } in r) o
      by None = refl
      by (Some card) = refl

  pub inside_said : (all : List InsideRow) → AnswersAll inside_row_of inside_query [] db all
      → all ≡ cards_inside_on rows
  inside_said all a =
      let mine = filter_map pair rows.inside in
      let up : IsAscending (λ x y. output_cmp inside_query x y ≡ Less) (map shown mine) =
      ascending-map _ shown mine (ascending_weaker _ _ pair_order mine
      (rise_alike pair (λ a b. pair_cmp a b ≡ Less) (λ (y : Inside). y.0) of_key rows.inside (insides_rise db t))) in
      let same : IsPermutation (map (output inside_query) (matches (overlay db []) test tables ([] ∷ [])))
      (map shown mine) = subst (IsPermutation _) (all_pairs rows.inside) matched in
      let shows = sorted_answer tables test project order (overlay db []) [] a.0 (map shown mine) a.1 same up in
      a.2 ∙ ap (map inside_row_of) (shows ∙ map-map (λ (o : Output). o.1) shown mine)
      ∙ map-map inside_row_of (λ y. (shown y).1) mine
      ∙ made_alike pair (λ y. inside_row_of (shown y).1) (inside_row_on rows) says rows.inside
