-- The walks over stays: the arrivals of a day, and the bookings.
use Rattle.std.proofs.Common.{◌≡◌, ◌&&◌, refl, ap, ap₂, ◌∙◌, List, [], ◌∷◌, ℕ, pos, true, false, Bool, eqb}
use Rattle.sqlite_value.specs.declared.value.Value.TheVariants.{Int}
use Rattle.sqlite_value.specs.declared.keys.Collation.TheVariants.{Binary}
use Rattle.sqlite_sql.specs.declared.ops.BinaryOp.TheVariants.{Compare}
use Rattle.sqlite_sql.specs.declared.ops.CompareOp.TheVariants.{Eq, Lt, Le}
use Rattle.sqlite.specs.Ops.{binary, is_true}
use Rattle.sqlite.specs.Order.{Row, column}
use Rattle.sqlite.specs.Query.{Query}
use Rattle.sqlite.specs.Term.{Term, lit, col}
use Rattle.sqlite.specs.Tree.{Trees}
use Rattle.hotel_nights.specs.declared.stay.Stay.{Stay}
use Rattle.hotel_nights.specs.declared.stay.StayState.{StayState}
use Rattle.hotel_nights.specs.declared.stay.StayState.TheVariants.{Booked, InHouse, Done, Cancelled}
use Rattle.hotel_model.specs.Stays.{is_booked_state}
use Rattle.hotel_model.specs.{Lists.arrives_on, Lists.is_booking, Refinement.ListsOnRows.arrivals_on}
use Rattle.hotel_model.specs.Refinement.ListsOnRows.{bookings_on}
use Rattle.hotel_statements.specs.Schema.{compare}
use Rattle.hotel_statements.specs.Values.{int}
use Rattle.hotel_statements.specs.Columns.{state_number, stay_columns, stay_row_of, stay_of, stay_written}
use Rattle.hotel_statements.specs.Tables.{AreTables, IsWrittenAs, rows_in}
use Rattle.hotel_statements.specs.LookUps.{AnswersAll}
use Rattle.hotel_statements.proofs.Answers.{passes}
use Rattle.hotel_statements.proofs.Keys.{and_true}
use Rattle.hotel_statements.proofs.Keyed.{column_equals}
use Rattle.hotel_statements.proofs.Lists.{stays_query, stays_passing}
use Rattle.hotel_statements.proofs.OfWalks.Compared.{at_most, less_than}

module _ (db : Trees) (t : AreTables db) where
  -- ---- the arrivals of a day

  abbrev arrival_test : List Term
  arrival_test =
      compare Eq (col 1 6) (lit (Int (pos 0))) ∷ compare Le (col 1 4) (col 0 0) ∷ compare Lt (col 0 0) (col 1 5) ∷ []

  abbrev pub arrival_query : Query
  arrival_query = stays_query db t arrival_test

  booked : (state : StayState) → eqb (state_number state) 0 ≡ is_booked_state state
  booked Booked = refl
  booked (InHouse room) = refl
  booked Done = refl
  booked Cancelled = refl

  together : (a b c : Bool) → (a && (b && c)) ≡ ((a && b) && c)
  together true b c = refl
  together false b c = refl

  arrival_tests : (day : ℕ) (r : Row) → IsWrittenAs stay_columns stay_of stay_written r
      → passes arrival_test (int day ∷ []) r ≡ arrives_on day (stay_of (stay_columns r)).1
  arrival_tests day r good =
      let stay = (stay_of (stay_columns r)).1 in
      let state =
      column_equals (column r 6) (state_number stay.state) 0 (ap (λ v. column v 5) good) ∙ booked stay.state in
      let arrive = ap (λ v. is_true (binary (Compare Le Binary) v (int day))) (ap (λ v. column v 3) good)
      ∙ at_most stay.arrive day in
      let depart = ap (λ v. is_true (binary (Compare Lt Binary) (int day) v)) (ap (λ v. column v 4) good)
      ∙ less_than day stay.depart in
      ap₂ (λ x y. x && y) state (ap₂ (λ x y. x && y) arrive (and_true _ ∙ depart))
      ∙ together (is_booked_state stay.state) _ _

  pub arrivals_said : (day : ℕ) (all : List Stay)
      → AnswersAll stay_row_of arrival_query (int day ∷ []) db all → all ≡ arrivals_on (rows_in db) day
  arrivals_said day = stays_passing db t arrival_test (int day ∷ []) (arrives_on day) (arrival_tests day)

  -- ---- the bookings

  abbrev booking_test : List Term
  booking_test = compare Eq (col 1 6) (lit (Int (pos 0))) ∷ []

  abbrev pub booking_query : Query
  booking_query = stays_query db t booking_test

  booking_tests : (r : Row) → IsWrittenAs stay_columns stay_of stay_written r
      → passes booking_test [] r ≡ is_booking (stay_of (stay_columns r)).1
  booking_tests r good =
      let stay = (stay_of (stay_columns r)).1 in
      and_true _ ∙ column_equals (column r 6) (state_number stay.state) 0 (ap (λ v. column v 5) good)
      ∙ booked stay.state

  pub bookings_said : (all : List Stay)
      → AnswersAll stay_row_of booking_query [] db all → all ≡ bookings_on (rows_in db)
  bookings_said = stays_passing db t booking_test [] is_booking booking_tests
