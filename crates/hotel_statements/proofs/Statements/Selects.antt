-- The look-ups, as a desk understands them.
use Rattle.std.proofs.Common.{refl, [], ◌∷◌, true}
use Rattle.sqlite_tied.specs.Compute.{everything}
use Rattle.sqlite.specs.Listing.{understood}
use Rattle.sqlite_value.specs.declared.keys.Collation.TheVariants.{Binary}
use Rattle.sqlite_value.specs.Keys.{ascending}
use Rattle.sqlite.specs.Term.{col}
use Rattle.hotel_statements.specs.Trees.{meta_tree, kind_tree, room_tree, stay_tree, code_tree, card_tree, inside_tree}
use Rattle.hotel_statements.specs.Trees.{note_tree, fit_tree}
use Rattle.hotel_statements.specs.LookUps.{Asks}
use Rattle.hotel_statements.specs.Texts as text
use Rattle.hotel_statements.proofs.Answers.{single}
use Rattle.hotel_statements.proofs.Statements.Terms.{by_rowid, column_is, by_pair, columns, all_seven, all_eight}

pub select_day : Asks text.select_day (single meta_tree by_rowid (columns (3 ∷ [])) [])
unfolding understood everything
select_day = record { query = (_, refl); plain = (refl, refl); listing = refl }

pub select_kind : Asks text.select_kind (single kind_tree (column_is 1 0 ∷ []) (columns (1 ∷ [])) [])
unfolding understood everything
select_kind = record { query = (_, refl); plain = (refl, refl); listing = refl }

pub select_room : Asks text.select_room (single room_tree by_rowid all_seven [])
unfolding understood everything
select_room = record { query = (_, refl); plain = (refl, refl); listing = refl }

pub select_stay : Asks text.select_stay (single stay_tree by_rowid all_seven [])
unfolding understood everything
select_stay = record { query = (_, refl); plain = (refl, refl); listing = refl }

pub select_code : Asks text.select_code (single code_tree by_rowid (columns (0 ∷ 2 ∷ 3 ∷ [])) [])
unfolding understood everything
select_code = record { query = (_, refl); plain = (refl, refl); listing = refl }

pub select_code_at : Asks text.select_code_at
    (single code_tree (by_pair 2 3) (columns (0 ∷ [])) ((col 1 0, ascending Binary) ∷ []))
unfolding understood everything
select_code_at = record { query = (_, refl); plain = (refl, refl); listing = refl }

pub select_card : Asks text.select_card (single card_tree by_rowid (columns (0 ∷ 2 ∷ 3 ∷ 4 ∷ [])) [])
unfolding understood everything
select_card = record { query = (_, refl); plain = (refl, refl); listing = refl }

pub select_inside : Asks text.select_inside (single inside_tree (by_pair 1 2) (columns (2 ∷ [])) [])
unfolding understood everything
select_inside = record { query = (_, refl); plain = (refl, refl); listing = refl }

pub select_any_inside : Asks text.select_any_inside (single inside_tree (column_is 1 0 ∷ []) (columns (2 ∷ [])) [])
unfolding understood everything
select_any_inside = record { query = (_, refl); plain = (refl, refl); listing = refl }

pub select_note : Asks text.select_note (single note_tree (by_pair 1 2) all_eight [])
unfolding understood everything
select_note = record { query = (_, refl); plain = (refl, refl); listing = refl }

pub select_fit : Asks text.select_fit (single fit_tree (by_pair 1 2) (columns (1 ∷ 2 ∷ 3 ∷ 4 ∷ [])) [])
unfolding understood everything
select_fit = record { query = (_, refl); plain = (refl, refl); listing = refl }

pub select_last_party : Asks text.select_last_party
    (single stay_tree [] (columns (0 ∷ [])) ((col 1 0, record { collation = Binary; descending = true }) ∷ []))
unfolding understood everything
select_last_party = record { query = (_, refl); plain = (refl, refl); listing = refl }

pub select_last_card : Asks text.select_last_card
    (single card_tree [] (columns (0 ∷ [])) ((col 1 0, record { collation = Binary; descending = true }) ∷ []))
unfolding understood everything
select_last_card = record { query = (_, refl); plain = (refl, refl); listing = refl }

pub select_stays_of_kind : Asks text.select_stays_of_kind
    (single stay_tree (column_is 3 0 ∷ []) all_seven ((col 1 0, ascending Binary) ∷ []))
unfolding understood everything
select_stays_of_kind = record { query = (_, refl); plain = (refl, refl); listing = refl }

pub select_cards_inside : Asks text.select_cards_inside
    (single inside_tree (column_is 1 0 ∷ []) (columns (2 ∷ [])) ((col 1 2, ascending Binary) ∷ []))
unfolding understood everything
select_cards_inside = record { query = (_, refl); plain = (refl, refl); listing = refl }

pub select_fits : Asks text.select_fits (single fit_tree (column_is 1 0 ∷ []) (columns (1 ∷ 2 ∷ 3 ∷ 4 ∷ []))
    ((col 1 2, ascending Binary) ∷ []))
unfolding understood everything
select_fits = record { query = (_, refl); plain = (refl, refl); listing = refl }
