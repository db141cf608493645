-- What is counted beside the connection, said of the books' rows.
use Rattle.std.proofs.Common.{◌≡◌, ◌-◌, ℕ, List, Option, sym, ap, subst, ◌∙◌}
use Rattle.std.specs.Map.{values_of}
use Rattle.sqlite.specs.Held.{Held}
use Rattle.sqlite.specs.State.{State}
use Rattle.hotel_nights.specs.declared.stay.Stay.{Stay}
use Rattle.hotel_nights.specs.FullNight.{is_full, first_day}
use Rattle.hotel_model.specs.Rows.{Rows}
use Rattle.hotel_model.specs.{Refinement.Lookups.first_full_on, Rows.rooms_of_kind}
use Rattle.hotel_books.specs.KindRooms.{rooms_in}
use Rattle.hotel_books.specs.NightIndex.{CountsNights}
use Rattle.hotel_statements.specs.Books.{IsKept}
use Rattle.hotel_statements.specs.Tables.{rows_in as all_rows_in}
use Rattle.hotel_tables.specs.TableBooks.{Tabled, IsCounted}

module _ {S : Type 0} (shown : Held S → State) (inside self : Tabled S) (same : inside ≡ self) where
  -- the rows that the tables have
  abbrev rows_by : Tabled S → Rows
  rows_by b = all_rows_in (shown b.conn).now.trees

  -- the first full night, by the counts that stand beside the connection
  pub night_found : (kind : List ℕ) (rooms arrive depart : ℕ) (found : Option ℕ)
      → (IsKept (shown inside.conn) → IsCounted inside.kinds inside.nights (rows_by inside))
      → rooms ≡ rooms_in inside.kinds kind
      → ((stays : List Stay) → CountsNights inside.nights stays
      → found ≡ first_day (is_full stays kind rooms) arrive (depart - arrive))
      → IsKept (shown self.conn) → found ≡ first_full_on (rows_by self) kind arrive (depart - arrive)
  night_found kind rooms arrive depart found counted many found_is kept =
      let stays = values_of (rows_by inside).stays in
      let c = counted (subst (λ (b : Tabled S). IsKept (shown b.conn)) (sym same) kept) in
      let as_many : rooms ≡ rooms_of_kind (rows_by inside).rooms kind = many ∙ c.rooms kind in
      found_is stays c.stays ∙ ap (λ n. first_day (is_full stays kind n) arrive (depart - arrive)) as_many
      ∙ ap (λ (b : Tabled S). first_full_on (rows_by b) kind arrive (depart - arrive)) same
