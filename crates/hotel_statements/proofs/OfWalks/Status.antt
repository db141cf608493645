-- The walk over the rooms, each as it stands.
use Rattle.std.proofs.Common.{◌≡◌, ◌∙◌, refl, ap, ap₂, List, [], ◌∷◌, ℕ, Option, Some, None, map, true, nat_cmp}
use Rattle.std.specs.List.{AllByRecursion}
use Rattle.std.specs.Map.{values_of}
use Rattle.std.proofs.lemmas.Cmp.{nat_cmp_total}
use Rattle.sqlite_keyed.proofs.ListLemmas.{map-map, all_map, all_of}
use Rattle.sqlite_value.specs.declared.value.Value.TheVariants.{Text}
use Rattle.sqlite.specs.Order.{Row, column}
use Rattle.sqlite.specs.Query.{Query}
use Rattle.sqlite.specs.Term.{Term, col}
use Rattle.sqlite.specs.Tree.{Trees}
use Rattle.hotel_model.specs.declared.rows.RoomRow.{RoomRow}
use Rattle.hotel_model.specs.declared.rows.FitRow.{FitRow}
use Rattle.hotel_model.specs.declared.list_rows.StatusRow.{StatusRow}
use Rattle.hotel_model.specs.Rows.{fits_at, last_fit}
use Rattle.hotel_model.specs.Refinement.ListsOnRows.{status_row_on, room_status_on}
use Rattle.hotel_rows.specs.Joined.{with_last, with_fit, FitEntries}
use Rattle.hotel_statements.specs.Trees.{room_tree}
use Rattle.hotel_statements.specs.Values.{int, maybe_int, option_of}
use Rattle.hotel_statements.specs.Columns.{bit_of, room_columns, room_of, room_written}
use Rattle.hotel_statements.specs.Tables.{AreTables, IsWrittenAs, by_key, rows_in, bare_rooms_in, fits_in}
use Rattle.hotel_statements.specs.LookUps.{AnswersAll}
use Rattle.hotel_statements.specs.Walks.{status_row_of}
use Rattle.hotel_statements.proofs.Answers.{single}
use Rattle.hotel_statements.proofs.Statements.Terms.{columns}
use Rattle.hotel_statements.proofs.Risen.{rooms_rise}
use Rattle.hotel_statements.proofs.Keyed.{key_total}
use Rattle.hotel_statements.proofs.Ordered.{numbered_rows, rising, all_listed}
use Rattle.hotel_statements.proofs.OfWalks.Compared.{all_kept}
use Rattle.hotel_statements.proofs.OfWalks.House.{bit_back}

maybe_back : (o : Option ℕ) → option_of (maybe_int o) ≡ o
maybe_back None = refl
maybe_back (Some n) = refl

abbrev project : List Term
project = columns (0 ∷ 2 ∷ 6 ∷ 3 ∷ 4 ∷ 5 ∷ [])

abbrev pub status_query : Query
status_query = single room_tree [] project (rising (col 1 0))

abbrev Room : Type 0
Room = ℕ × RoomRow

abbrev shown : Room → Row
shown e = int e.0 ∷ Text e.1.kind ∷ maybe_int e.1.party ∷ int e.1.lock_place ∷ int e.1.codes ∷ int (bit_of e.1.secured)
    ∷ []

-- a room's row has the number under which it stands
abbrev IsOwn : Room → Type 0
IsOwn e = e.1.room ≡ e.0

-- what is said of a room doesn't look at its fits
says : (last : Option FitRow) (e : Room) → IsOwn e → status_row_of (shown e) ≡ status_row_on (with_last last e.1)
says last e own = rw (own, maybe_back e.1.party, bit_back e.1.secured) refl

all_say : (fits : FitEntries) (es : List Room) → AllByRecursion IsOwn es
    → map (λ e. status_row_of (shown e)) es ≡ map status_row_on (values_of (map (with_fit fits) es))
all_say fits [] own = refl
all_say fits (e ∷ es) own =
    ap₂ (λ row rows. row ∷ rows) (says (last_fit (fits_at fits e.0)) e own.0) (all_say fits es own.1)

module _ (db : Trees) (t : AreTables db) where
  own : AllByRecursion IsOwn (bare_rooms_in db)
  own = all_listed (by_key nat_cmp) (key_total nat_cmp_total) (IsWrittenAs room_columns room_of room_written)
      (λ r. room_of (room_columns r)) IsOwn (db room_tree)
      (all_map IsOwn (λ r. room_of (room_columns r)) (db room_tree) (all_of _ (λ r. refl) (db room_tree)))

  pub status_said : (all : List StatusRow)
      → AnswersAll status_row_of status_query [] db all → all ≡ room_status_on (rows_in db)
  status_said all a =
      let rooms = bare_rooms_in db in
      let shows : a.0 ≡ map shown rooms =
      numbered_rows (by_key nat_cmp) (key_total nat_cmp_total) (IsWrittenAs room_columns room_of room_written)
      (λ r. room_of (room_columns r)) room_tree [] project (col 1 0) [] (λ _. true) (λ e. e.0) shown db a.0 rooms
      t.room (λ r good. refl)
      (λ r good. ap (λ v. (
        column v 0 ∷ [],
        column v 0 ∷ column v 1 ∷ column v 5 ∷ column v 2 ∷ column v 3
            ∷ column v 4 ∷ [],
      )) good)
      (all_kept rooms) (rooms_rise db t) a.1 in
      a.2 ∙ ap (map status_row_of) shows ∙ map-map status_row_of shown rooms ∙ all_say (fits_in db) rooms own
