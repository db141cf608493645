-- The walk over the rooms with a registered party.
use Rattle.std.proofs.Common.{if◌then◌else◌, ◌≡◌, ◌∙◌, refl, sym, ap, ap₂, subst, List, [], ◌∷◌, ℕ, Bool, true}
use Rattle.std.proofs.Common.{false, Option, Some, None, map, flat_map, Less, nat_cmp, eqb}
use Rattle.std.specs.Prelude.{filter_map, option_map, ◌==◌}
use Rattle.std.specs.List.{list_all}
use Rattle.std.specs.Option.{option_to_list}
use Rattle.std.specs.BTreeMap.{is_at}
use Rattle.std.specs.List.Sorted.{IsPermutation}
use Rattle.std.proofs.lemmas.Cmp.{nat_cmp_total}
use Rattle.std.proofs.lemmas.List.Concat.{flat_map_single}
use Rattle.sqlite_keyed.proofs.ListLemmas.{map-map, all_weaker, ascending-map, ascending_weaker, flat_map_none}
use Rattle.sqlite_keyed.proofs.ListLemmas.{flat_map_same_on}
use Rattle.sqlite_value.specs.declared.value.Value.TheVariants.{Text}
use Rattle.sqlite_value.specs.declared.keys.Collation.TheVariants.{Binary}
use Rattle.sqlite_value.specs.declared.keys.Key.{Key}
use Rattle.sqlite_value.specs.Keys.{ascending}
use Rattle.sqlite_sql.specs.declared.ops.BinaryOp.TheVariants.{Compare}
use Rattle.sqlite_sql.specs.declared.ops.CompareOp.TheVariants.{Eq}
use Rattle.sqlite.specs.Ops.{binary, is_true}
use Rattle.sqlite.specs.Order.{Row, column}
use Rattle.sqlite.specs.Query.{Query, Join, inner, end, Output, output, output_cmp, matches}
use Rattle.sqlite.specs.Program.{overlay}
use Rattle.sqlite.specs.Term.{Term, col, holds}
use Rattle.sqlite.specs.Tree.{Trees, IsAscending}
use Rattle.hotel_nights.specs.declared.stay.Stay.{Stay}
use Rattle.hotel_model.specs.declared.rows.RoomRow.{RoomRow}
use Rattle.hotel_model.specs.declared.list_rows.HouseRow.{HouseRow}
use Rattle.hotel_model.specs.Words.{said_of}
use Rattle.hotel_model.specs.Rows.{Rows, at_number}
use Rattle.hotel_model.specs.Sound.{IsSound}
use Rattle.hotel_model.specs.Refinement.ListsOnRows.{housed, house_row_on, in_house_on}
use Rattle.hotel_model.specs.Refinement.Lookups.{stay_at}
use Rattle.hotel_model.proofs.OfTables.Tests.{eq_from}
use Rattle.hotel_model.proofs.OfTables.Tests as tests
use Rattle.hotel_model.proofs.OfTables.RowTests.{found_passes}
use Rattle.hotel_model.proofs.Starts.StartCodes.{room_is}
use Rattle.hotel_statements.specs.Trees.{room_tree, stay_tree}
use Rattle.hotel_statements.specs.Schema.{compare}
use Rattle.hotel_statements.specs.Values.{int, maybe_int}
use Rattle.hotel_statements.specs.Columns.{bit_of, room_columns, room_of, room_written, stay_columns, stay_of}
use Rattle.hotel_statements.specs.Columns.{stay_written}
use Rattle.hotel_statements.specs.Tables.{AreTables, IsWrittenAs, by_key, rows_in, bare_rooms_in}
use Rattle.hotel_statements.specs.LookUps.{AnswersAll}
use Rattle.hotel_statements.specs.Walks.{house_row_of}
use Rattle.hotel_statements.proofs.Risen.{stays_rise, rooms_rise}
use Rattle.hotel_statements.proofs.Joins.{fitted, joined_there, values_kept}
use Rattle.hotel_statements.proofs.Keys.{equals, and_true, is_key}
use Rattle.hotel_statements.proofs.Keyed.{key_total}
use Rattle.hotel_statements.proofs.Found.{one_entry}
use Rattle.hotel_statements.proofs.Ordered.{int_order, then_nothing}
use Rattle.hotel_statements.proofs.OfWalks.SoundCodes.{finds_itself}
use Rattle.hotel_statements.proofs.OfWalks.Joined.{over, sorted_answer, one_more_table, last_table, where_it_passes}
use Rattle.hotel_statements.proofs.OfWalks.Joined.{made_of_each, rise_alike, said_of_each}

equals_maybe : (n : ℕ) (o : Option ℕ)
    → is_true (binary (Compare Eq Binary) (int n) (maybe_int o)) ≡ said_of o false (λ k. eqb n k)
unfolding binary
equals_maybe n None = refl
equals_maybe n (Some k) = equals n k

abbrev test : List Term
test = compare Eq (col 2 0) (col 1 6) ∷ []

abbrev project : List Term
project = col 1 0 ∷ col 1 6 ∷ col 2 2 ∷ col 2 3 ∷ col 2 5 ∷ col 1 5 ∷ []

abbrev order : List (Term × Key)
order = (col 1 0, ascending Binary) ∷ []

abbrev tables : Join
tables = inner room_tree (inner stay_tree end)

abbrev pub house_query : Query
house_query = over tables test project order

abbrev Room : Type 0
Room = ℕ × RoomRow

-- the party of the room is that of the stay
abbrev is_there : Room → ℕ × Stay → Bool
is_there e x = said_of e.1.party false (λ party. eqb x.0 party)

-- a room and the stay of its party, and what is shown of them
abbrev Housed : Type 0
Housed = Room × Stay

abbrev from_columns : Row → Row → Output
from_columns rc sc =
    (column rc 0 ∷ [], column rc 0 ∷ column rc 5 ∷ column sc 1 ∷ column sc 2 ∷ column sc 4 ∷ column rc 4 ∷ [])

abbrev shown : Housed → Output
shown y = (
  int y.0.0 ∷ [],
  int y.0.0 ∷ maybe_int y.0.1.party ∷ Text y.1.guest ∷ Text y.1.kind ∷ int y.1.depart ∷ int (bit_of y.0.1.secured) ∷ [],
)

pub bit_back : (b : Bool) → (bit_of b == 1) ≡ b
bit_back true = refl
bit_back false = refl

module _ (db : Trees) (t : AreTables db) (sound : IsSound (rows_in db)) where
  abbrev rows : Rows
  rows = rows_in db

  -- the rooms, as their table has them
  abbrev rooms : List Room
  rooms = bare_rooms_in db

  abbrev pairs_of : Room → List Output
  pairs_of e = flat_map (λ x. if is_there e x then shown (e, x.1) ∷ [] else []) rows.stays

  tests_there : (r s : Row) → IsWrittenAs room_columns room_of room_written r
      → IsWrittenAs stay_columns stay_of stay_written s
      → list_all (holds ([] ∷ r ∷ s ∷ [])) test ≡ is_there (room_of (room_columns r)) (stay_of (stay_columns s))
  tests_there r s room stay =
      and_true _
      ∙ ap₂ (λ v w. is_true (binary (Compare Eq Binary) v w)) (ap (λ v. column v 0) stay) (ap (λ v. column v 5) room)
      ∙ equals_maybe (stay_of (stay_columns s)).0 (room_of (room_columns r)).1.party

  shows : (r s : Row) → IsWrittenAs room_columns room_of room_written r
      → IsWrittenAs stay_columns stay_of stay_written s
      → output house_query ([] ∷ r ∷ s ∷ []) ≡ shown (room_of (room_columns r), (stay_of (stay_columns s)).1)
  shows r s room stay = ap₂ from_columns room stay

  matched : IsPermutation (map (output house_query) (matches (overlay db []) test tables ([] ∷ [])))
      (flat_map pairs_of rooms)
  matched =
      one_more_table db test house_query (by_key nat_cmp) (key_total nat_cmp_total)
      (IsWrittenAs room_columns room_of room_written) (λ r. room_of (room_columns r)) room_tree (inner stay_tree end)
      ([] ∷ [])
      pairs_of t.room.good (λ r room.
      one_more_table db test house_query (by_key nat_cmp) (key_total nat_cmp_total)
      (IsWrittenAs stay_columns stay_of stay_written) (λ s. stay_of (stay_columns s)) stay_tree end ([] ∷ r ∷ [])
      (λ x. if is_there (room_of (room_columns r)) x then shown (room_of (room_columns r), x.1) ∷ [] else [])
      t.stay.good (λ s stay.
      last_table db test house_query ([] ∷ r ∷ s ∷ []) _ _ (tests_there r s room stay) (shows r s room stay)))

  -- each room has one stay at most
  abbrev pair : Room → Option Housed
  pair e = said_of e.1.party None (λ party. option_map (λ stay. (e, stay)) (stay_at rows party))

  of_party : (e : Room) (k : ℕ) → flat_map (λ (x : ℕ × Stay). if eqb x.0 k then shown (e, x.1) ∷ [] else []) rows.stays
      ≡ map shown (option_to_list (option_map (λ stay. (e, stay)) (stay_at rows k)))
  of_party e k =
      flat_map_same_on _ _ (λ (x : ℕ × Stay). ap (λ b. if b then shown (e, x.1) ∷ [] else []) (sym (is_key k x.0)))
      rows.stays
      ∙ where_it_passes (λ (x : ℕ × Stay). is_at (nat_cmp k) x.0) (λ x. shown (e, x.1) ∷ []) rows.stays
      ∙ flat_map_single (λ (x : ℕ × Stay). shown (e, x.1)) _
      ∙ sym (map-map (λ stay. shown (e, stay)) (λ (x : ℕ × Stay). x.1) _)
      ∙ ap (map (λ stay. shown (e, stay))) (one_entry nat_cmp nat_cmp_total k rows.stays (stays_rise db t))
      ∙ mapped (stay_at rows k)
    where
      mapped : (o : Option Stay) → map (λ stay. shown (e, stay)) (option_to_list o)
          ≡ map shown (option_to_list (option_map (λ stay. (e, stay)) o))
      mapped None = refl
      mapped (Some stay) = refl

  paired_by : (e : Room) (o : Option ℕ) → flat_map (λ (x : ℕ × Stay). if said_of o false (λ party. eqb x.0 party)
      then shown (e, x.1) ∷ [] else []) rows.stays
      ≡ map shown (option_to_list (said_of o None (λ party. option_map (λ stay. (e, stay)) (stay_at rows party))))
  paired_by e None = flat_map_none _ (λ x. refl) rows.stays
  paired_by e (Some k) = of_party e k

  all_pairs : (es : List Room) → flat_map pairs_of es ≡ map shown (filter_map pair es)
  all_pairs es = flat_map_same_on _ _ (λ e. paired_by e e.1.party) es ∙ made_of_each pair shown es

  of_room : (e : Room) (y : Housed) → pair e ≡ Some y → y.0 ≡ e
  of_room e y is = by e.1.party is
    where
      at : (o : Option Stay) → option_map (λ stay. (e, stay)) o ≡ Some y → y.0 ≡ e
      at None is = absurd cc
      at (Some stay) is = let same : (e, stay) ≡ y = cc in sym (ap (λ (z : Housed). z.0) same)

      by : (o : Option ℕ)
          → said_of o None (λ party. option_map (λ stay. (e, stay)) (stay_at rows party)) ≡ Some y → y.0 ≡ e
      by None is = absurd cc
      by (Some k) is = at (stay_at rows k) is

  -- what is said of each
  party_is : (k : ℕ) (stay : Stay) → at_number rows.stays k ≡ Some stay → stay.party ≡ k
  party_is k stay found =
      let a = tests.and_true _ _ sound.stay_number in
      let b = tests.and_true _ _ a.0 in
      eq_from stay.party k (found_passes (λ (x : ℕ × Stay). x.1.party == x.0) rows.stays k stay b.0 found)

  says : (e : Room) → at_number rooms e.0 ≡ Some e.1 → option_map (λ y. house_row_of (shown y).1) (pair e)
      ≡ house_row_on rows e.1
  says e found = by e.1.party refl
    where
      made : (k : ℕ) → e.1.party ≡ Some k → (o : Option Stay) → stay_at rows k ≡ o
          → option_map (λ y. house_row_of (shown y).1) (option_map (λ stay. (e, stay)) o) ≡ option_map (housed e.1) o
      made k at None is = refl
      made k at (Some stay) is =
          let room = room_is rows sound e.0 (fitted rows.fits e.0 e.1) (joined_there rows.fits rooms e found) in
          let party = party_is k stay is in
          let secured = bit_back e.1.secured in
          ap Some (rw (at, room, party, secured) refl)

      by : (o : Option ℕ) → e.1.party ≡ o → option_map (λ y. house_row_of (shown y).1) (said_of o None
          (λ party. option_map (λ stay. (e, stay)) (stay_at rows party)))
          ≡ said_of o None (λ party. option_map (housed e.1) (stay_at rows party))
      by None at = refl
      by (Some k) at = made k at (stay_at rows k) refl

  pub house_said : (all : List HouseRow) → AnswersAll house_row_of house_query [] db all → all ≡ in_house_on rows
  house_said all a =
      let mine = filter_map pair rooms in
      let up : IsAscending (λ x y. output_cmp house_query x y ≡ Less) (map shown mine) =
      ascending-map _ shown mine (ascending_weaker _ _ (λ x y less. then_nothing _ ∙ int_order x.0.0 y.0.0 ∙ less) mine
      (rise_alike pair (λ (a b : Room). by_key nat_cmp a b ≡ Less) (λ (y : Housed). y.0) of_room rooms
      (rooms_rise db t))) in
      let same : IsPermutation (map (output house_query) (matches (overlay db []) test tables ([] ∷ [])))
      (map shown mine) =
      subst (IsPermutation _) (all_pairs rooms) matched in
      let shows = sorted_answer tables test project order (overlay db []) [] a.0 (map shown mine) a.1 same up in
      a.2 ∙ ap (map house_row_of) (shows ∙ map-map (λ (o : Output). o.1) shown mine)
      ∙ map-map house_row_of (λ y. (shown y).1) mine
      ∙ said_of_each pair (λ y. house_row_of (shown y).1) (house_row_on rows) rooms
      (all_weaker _ _ says rooms (finds_itself rooms (rooms_rise db t)))
      ∙ sym (values_kept rows.fits (house_row_on rows) (λ last row. refl) rooms)
