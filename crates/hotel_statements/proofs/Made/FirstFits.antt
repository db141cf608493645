-- What the statements of an upgrade make of the tables.
use Rattle.std.proofs.Common.{◌≡◌, ◌&&◌, refl, sym, ap, ap₂, subst, ◌∙◌, List, [], ◌∷◌, ℕ, Ok, Option, IsTrue, true}
use Rattle.std.proofs.Common.{is_eq}
use Rattle.std.specs.List.{AllByRecursion}
use Rattle.std.proofs.lemmas.List.Sorted.{IsPermutation-sym}
use Rattle.sqlite_value.specs.declared.value.Value.TheVariants.{Null}
use Rattle.sqlite_trees.specs.Tree.{with_tree}
use Rattle.sqlite_rules.specs.Edit.{next_rowid}
use Rattle.sqlite.specs.Order.{Row, column}
use Rattle.sqlite.specs.Tree.{put_row}
use Rattle.sqlite.specs.Effect.{IsDatabase}
use Rattle.sqlite.specs.State.{State, Shows, ExecutesInside}
use Rattle.hotel_model.specs.Words.{pair_cmp}
use Rattle.hotel_model.specs.Refits.{fit_row}
use Rattle.hotel_model.proofs.OfTables.Pairs.{pair_is, pair_cmp_total}
use Rattle.hotel_rows.specs.Joined.{FitEntries}
use Rattle.hotel_statements.specs.Trees.{fit_tree}
use Rattle.hotel_statements.specs.Texts.{update_version, insert_fit}
use Rattle.hotel_statements.specs.Values.{int}
use Rattle.hotel_statements.specs.Columns.{fit_columns, fit_of, fit_written}
use Rattle.hotel_statements.specs.Tables.{AreTables, HasId, IsWrittenAs, by_key, bare_rows_in, fits_in}
use Rattle.hotel_statements.specs.Upgrade.{IsOutdated, IsFilling, HasFits, with_first_fit}
use Rattle.hotel_statements.proofs.Keyed.{column_equals, key_total}
use Rattle.hotel_statements.proofs.Keys.{and_true}
use Rattle.hotel_statements.proofs.Perm.{put_fresh, every_shuffled}
use Rattle.hotel_statements.proofs.Statements.Changes as changes
use Rattle.hotel_statements.proofs.Made.Desk.{Changed, same_desk, same_bare, same_fits, first_of_same, fits_set}
use Rattle.hotel_statements.proofs.Made.Desk.{version_set}
use Rattle.hotel_statements.proofs.Made.Alone.{alone, fit_free}
use Rattle.hotel_statements.proofs.Made.Deletes.{test}
use Rattle.hotel_statements.proofs.Made.Entries.{changed_at}
use Rattle.hotel_statements.proofs.Made.Reads.{fit_stored}
use Rattle.hotel_statements.proofs.Made.Writes.{left_sound}
use Rattle.hotel_statements.proofs.Made.Inserts.{put_fit, fit_made}
use Rattle.hotel_statements.proofs.Made.Updates.{sets_meta}

-- a statement wrote one table, and this is what its rows make of the desk
has_fits : {tree : ℕ} {rows : List Row} {fits : FitEntries} (old new : State) → Shows old new new.now old.committed true
    → Changed tree rows old new → IsDatabase new.now → AllByRecursion HasId (with_tree old.now.trees tree rows fit_tree)
    → AreTables (with_tree old.now.trees tree rows)
    × (bare_rows_in (with_tree old.now.trees tree rows) ≡ bare_rows_in old.now.trees)
    × (fits_in (with_tree old.now.trees tree rows) ≡ fits) → HasFits fits old new
has_fits {tree} {rows} old new shown did sound ids set =
    let db = with_tree old.now.trees tree rows in
    let parts = first_of_same db new.now.trees did.trees in
    record {
      desk = record {
        was_open = shown.was_open;
        is_open = shown.is_open;
        committed = shown.committed_is;
        mid = record {
          schema = did.schema;
          inside = subst IsTrue (sym shown.mode) refl;
          tables = (same_desk db new.now.trees did.trees set.0).0;
        };
        sound = sound;
        bare_rows_are = same_bare db new.now.trees parts.0 ∙ set.1;
      };
      fits_are = same_fits db new.now.trees parts.1 ∙ set.2;
      numbered = subst (AllByRecursion HasId) (sym parts.1) ids;
    }

-- ---- the version of meta

pub version_step : (old new : State) (count : ℕ)
    → ExecutesInside 0 update_version (int 1 ∷ int 2 ∷ []) old new (Ok count)
    → (IsTrue old.is_open → IsOutdated old) → HasFits [] old new
version_step old new count h before =
    let was = before h.1.was_open in
    let f : ℕ × Option ℕ → ℕ × Option ℕ = λ x. (2, x.1) in
    let did = sets_meta (int 2 ∷ []) f old new count changes.update_version (λ _ does. does)
    (λ r good. ap (λ (v : Row). column v 0 ∷ column v 0 ∷ Null ∷ int 2 ∷ column v 2 ∷ []) good)
    was.schema was.tables.meta h.0 in
    has_fits old new h.1 did.changes
    (left_sound old new update_version _ _ count changes.update_version (λ w. w) was.schema h.0)
    (subst (AllByRecursion HasId) (sym was.empty) tt)
    (version_set was.tables was.empty (did.made.0, did.made.1 ∙ ap (changed_at 1 f) was.tables.meta_row.1))

-- ---- the first fit of a room

fit_tested : (room number : ℕ) (r : Row) → IsWrittenAs fit_columns fit_of fit_written r
    → test room number r ≡ is_eq (pair_cmp (room, number) (fit_of (fit_columns r)).0)
fit_tested room number r good =
    let k = (fit_of (fit_columns r)).0 in
    let of_room = column_equals (column r 1) k.0 room (ap (λ v. column v 0) good) in
    let of_number = column_equals (column r 2) k.1 number (ap (λ v. column v 1) good) in
    ap₂ (λ x y. x && y) of_room (and_true _ ∙ of_number) ∙ sym (pair_is room number k)

pub first_fit_step : (old new : State) (room count : ℕ)
    → ExecutesInside 0 insert_fit (int room ∷ int 1 ∷ int 0 ∷ int 0 ∷ []) old new (Ok count)
    → (IsTrue old.is_open → IsFilling old) → HasFits (with_first_fit (fits_in old.now.trees) room) old new
first_fit_step old new room count h before =
    let was = before h.1.was_open in
    let db = old.now.trees in
    let rows = db fit_tree in
    let f = fit_row room 1 0 0 in
    let id = next_rowid rows in
    let row = fit_stored id f in
    let did = put_fit old new f count h.0 was.mid.schema in
    let out = alone room 1 id (int 0 ∷ int 0 ∷ []) rows (did.next fit_tree) (by_key pair_cmp)
    (key_total pair_cmp_total) (IsWrittenAs fit_columns fit_of fit_written) (λ r. fit_of (fit_columns r)) (λ e. e.0)
    (fit_tested room 1) was.mid.tables.fit.good was.numbered (fit_free did.next row rows did.fits did.next_is did.fresh)
    did.fresh did.next_is in
    let made = fit_made id f db was.mid.tables.fit did.fresh out in
    let ids = every_shuffled HasId (row ∷ rows) (put_row row rows)
    (IsPermutation-sym _ _ (put_fresh row rows did.fresh)) (refl, was.numbered) in
    has_fits old new h.1 did.changes
    (left_sound old new insert_fit _ _ count changes.insert_fit (λ w. w) was.mid.schema h.0) ids
    ((fits_set was.mid.tables made).0, refl, made.1)
