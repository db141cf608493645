-- What the two statements on the cards inside make of the rows of a desk.
use Rattle.std.proofs.Common.{◌≡◌, refl, ◌∙◌, List, [], ◌∷◌, ℕ, pos, false, Ok, is_eq}
use Rattle.std.proofs.lemmas.Cmp.{on_total}
use Rattle.std.proofs.lemmas.List.Sorted.{IsPermutation-sym}
use Rattle.sqlite_value.specs.declared.value.Value.TheVariants.{Null}
use Rattle.sqlite_value.proofs.OrderLemmas.{value_cmp_total}
use Rattle.sqlite_keyed.proofs.ListLemmas.{none_from_any, all_weaker}
use Rattle.sqlite_rules.specs.Edit.{next_rowid, is_taken}
use Rattle.sqlite_trees.specs.Tree.{rowid}
use Rattle.sqlite.specs.Order.{Row, value_cmp}
use Rattle.sqlite.specs.Tree.{put_row}
use Rattle.sqlite.specs.State.{State, ExecutesInside}
use Rattle.hotel_model.specs.Words.{pair_cmp}
use Rattle.hotel_model.proofs.OfTables.Pairs.{pair_cmp_total}
use Rattle.hotel_books.specs.Refinement.Finds.{AnyRows}
use Rattle.hotel_statements.specs.Trees.{inside_tree}
use Rattle.hotel_statements.specs.Schema.{inside_table}
use Rattle.hotel_statements.specs.Values.{int}
use Rattle.hotel_statements.specs.Texts.{insert_inside}
use Rattle.hotel_statements.specs.Columns.{inside_columns, inside_of, inside_written}
use Rattle.hotel_statements.specs.Tables.{IsWrittenAs, AreApartIds, HasId, rows_in}
use Rattle.hotel_statements.specs.Steps.{IsMidWith, MovesRows, inside_added}
use Rattle.hotel_statements.proofs.Statements.Changes as changes
use Rattle.hotel_statements.proofs.Writing.{cast_null, cast_int}
use Rattle.hotel_statements.proofs.Perm.{same_tie, put_fresh, apart_permuted, every_shuffled}
use Rattle.hotel_statements.proofs.Made.Desk.{steps, insides_set}
use Rattle.hotel_statements.proofs.Made.Entries.{put_keyed, key_put}
use Rattle.hotel_statements.proofs.Made.Deletes.{tested}
use Rattle.hotel_statements.proofs.Made.Gone.{Good, read}
use Rattle.hotel_statements.proofs.Made.Inserts.{Put, put}
use Rattle.hotel_statements.proofs.Made.Alone.{alone, inside_free}
use Rattle.hotel_statements.proofs.Made.Reads.{inside_stored}

put_ids : (new : Row) (rows : List Row) → is_taken rows new ≡ false → AreApartIds rows → AreApartIds (put_row new rows)
put_ids new rows fresh apart =
    let flipped = all_weaker _ (λ r. is_eq (value_cmp (rowid new) (rowid r)) ≡ false)
    (λ r h. same_tie value_cmp value_cmp_total (rowid new) (rowid r) ∙ h) rows
    (none_from_any (λ r. is_eq (value_cmp (rowid r) (rowid new))) rows fresh) in
    apart_permuted (λ a b. value_cmp (rowid a) (rowid b)) (on_total rowid value_cmp_total) (new ∷ rows)
    (put_row new rows) (IsPermutation-sym _ _ (put_fresh new rows fresh)) (flipped, apart)

pub inside_step : (old new : State) (room number count : ℕ)
    → ExecutesInside 0 insert_inside (int room ∷ int number ∷ []) old new (Ok count)
    → IsMidWith AnyRows old → MovesRows old new (inside_added room number)
inside_step old new room number count h mid =
    let was = (mid h.1.was_open).0 in
    let e : ℕ × ℕ = (room, number) in
    let rows = old.now.trees inside_tree in
    let row = inside_stored (next_rowid rows) e in
    let did : Put inside_tree row old new =
    put inside_tree inside_table _ (Null ∷ int room ∷ int number ∷ []) row old new count changes.insert_inside
    (λ _ does. does) refl
    (rw (cast_null, cast_int (pos room), cast_int (pos number)) refl) was.schema h.0 in
    let free = inside_free did.next row rows did.fits did.next_is did.fresh in
    let out = alone room number (next_rowid rows) [] rows (did.next inside_tree) pair_cmp pair_cmp_total Good read
    (λ e. e) (tested room number) was.tables.inside.good was.tables.inside_numbered free did.fresh did.next_is in
    let made = put_keyed pair_cmp pair_cmp_total (IsWrittenAs inside_columns inside_of inside_written)
    (λ r. inside_of (inside_columns r)) row e rows was.tables.inside refl refl did.fresh out in
    let ids = every_shuffled HasId (row ∷ rows) (put_row row rows)
    (IsPermutation-sym _ _ (put_fresh row rows did.fresh)) (refl, was.tables.inside_numbered) in
    steps old new (inside_added room number) h.1 did.changes
    (insides_set was.tables (made.0, made.1 ∙ key_put pair_cmp e (rows_in old.now.trees).inside out) ids
    (put_ids row rows did.fresh was.tables.inside_ids))
