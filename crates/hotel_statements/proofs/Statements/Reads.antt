-- The readings of whole tables, as a desk of each version understands them, whatever indexes it has.
use Rattle.std.proofs.Common.{refl, List, [], ◌∷◌}
use Rattle.sqlite_tied.specs.Compute.{everything}
use Rattle.sqlite.specs.Listing.{understood}
use Rattle.sqlite_value.specs.declared.keys.Collation.TheVariants.{Binary}
use Rattle.sqlite_value.specs.Keys.{ascending}
use Rattle.sqlite.specs.Term.{col}
use Rattle.hotel_statements.specs.declared.version.Version.{Version}
use Rattle.hotel_statements.specs.declared.version.Version.TheVariants.{First, Second}
use Rattle.hotel_statements.specs.Trees.{meta_tree, kind_tree, room_tree, stay_tree, code_tree, card_tree, inside_tree}
use Rattle.hotel_statements.specs.Trees.{note_tree, fit_tree}
use Rattle.sqlite_schema.specs.declared.schema.Index.{Index}
use Rattle.hotel_statements.specs.Schema.{schema_with}
use Rattle.hotel_statements.specs.LookUps.{AsksOf}
use Rattle.hotel_statements.specs.Texts as text
use Rattle.hotel_statements.proofs.Answers.{single}
use Rattle.hotel_statements.proofs.Statements.Terms.{columns, all_seven, all_eight}

pub read_meta : (version : Version) (indexes : List Index) → AsksOf (schema_with version indexes) text.read_meta
    (single meta_tree [] (columns (0 ∷ 2 ∷ 3 ∷ [])) ((col 1 0, ascending Binary) ∷ []))
unfolding understood everything
read_meta First indexes = record { query = (_, refl); plain = (refl, refl); listing = refl }
read_meta Second indexes = record { query = (_, refl); plain = (refl, refl); listing = refl }

pub read_kind : (version : Version) (indexes : List Index) → AsksOf (schema_with version indexes) text.read_kind
    (single kind_tree [] (columns (1 ∷ [])) ((col 1 1, ascending Binary) ∷ []))
unfolding understood everything
read_kind First indexes = record { query = (_, refl); plain = (refl, refl); listing = refl }
read_kind Second indexes = record { query = (_, refl); plain = (refl, refl); listing = refl }

pub read_room : (version : Version) (indexes : List Index) → AsksOf (schema_with version indexes) text.read_room
    (single room_tree [] all_seven ((col 1 0, ascending Binary) ∷ []))
unfolding understood everything
read_room First indexes = record { query = (_, refl); plain = (refl, refl); listing = refl }
read_room Second indexes = record { query = (_, refl); plain = (refl, refl); listing = refl }

pub read_stay : (version : Version) (indexes : List Index) → AsksOf (schema_with version indexes) text.read_stay
    (single stay_tree [] all_seven ((col 1 0, ascending Binary) ∷ []))
unfolding understood everything
read_stay First indexes = record { query = (_, refl); plain = (refl, refl); listing = refl }
read_stay Second indexes = record { query = (_, refl); plain = (refl, refl); listing = refl }

pub read_code : (version : Version) (indexes : List Index) → AsksOf (schema_with version indexes) text.read_code
    (single code_tree [] (columns (0 ∷ 2 ∷ 3 ∷ [])) ((col 1 0, ascending Binary) ∷ []))
unfolding understood everything
read_code First indexes = record { query = (_, refl); plain = (refl, refl); listing = refl }
read_code Second indexes = record { query = (_, refl); plain = (refl, refl); listing = refl }

pub read_card : (version : Version) (indexes : List Index) → AsksOf (schema_with version indexes) text.read_card
    (single card_tree [] (columns (0 ∷ 2 ∷ 3 ∷ 4 ∷ [])) ((col 1 0, ascending Binary) ∷ []))
unfolding understood everything
read_card First indexes = record { query = (_, refl); plain = (refl, refl); listing = refl }
read_card Second indexes = record { query = (_, refl); plain = (refl, refl); listing = refl }

pub read_inside : (version : Version) (indexes : List Index) → AsksOf (schema_with version indexes) text.read_inside
    (single inside_tree [] (columns (0 ∷ 1 ∷ 2 ∷ [])) ((col 1 1, ascending Binary) ∷ (col 1 2, ascending Binary) ∷ []))
unfolding understood everything
read_inside First indexes = record { query = (_, refl); plain = (refl, refl); listing = refl }
read_inside Second indexes = record { query = (_, refl); plain = (refl, refl); listing = refl }

pub read_note : (version : Version) (indexes : List Index) → AsksOf (schema_with version indexes) text.read_note
    (single note_tree [] all_eight ((col 1 1, ascending Binary) ∷ (col 1 2, ascending Binary) ∷ []))
unfolding understood everything
read_note First indexes = record { query = (_, refl); plain = (refl, refl); listing = refl }
read_note Second indexes = record { query = (_, refl); plain = (refl, refl); listing = refl }

pub read_fit : (indexes : List Index) → AsksOf (schema_with Second indexes) text.read_fit
    (single fit_tree [] (columns (1 ∷ 2 ∷ 3 ∷ 4 ∷ []))
    ((col 1 1, ascending Binary) ∷ (col 1 2, ascending Binary) ∷ []))
unfolding understood everything
read_fit indexes = record { query = (_, refl); plain = (refl, refl); listing = refl }
