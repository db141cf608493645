-- What is free by the counts of rows is what is free by the rows.
use Rattle.std.proofs.Common.{if◌then◌else◌, ◌≡◌, ◌-◌, ℕ, List, Option}
use Rattle.std.specs.Map.{values_of}
use Rattle.hotel_model.specs.declared.list_rows.FreeRow.{FreeRow}
use Rattle.hotel_model.specs.{Words.greatest, Lists.are_ahead, Rows.Rows, Rows.rooms_of_kind}
use Rattle.hotel_model.specs.Refinement.ListsOnRows.{free_row_on}
use Rattle.hotel_books.specs.{KindRooms.rooms_in, NightIndex.CountsNights, FreeRows.free_row_by}

pub free_by_rows : (kinds : List (List ℕ × ℕ)) (nights : List ((List ℕ × ℕ) × List ℕ)) (rows : Rows) (today : Option ℕ)
    (d n : ℕ) (kind : List ℕ)
    → today ≡ rows.day → rooms_in kinds kind ≡ rooms_of_kind rows.rooms kind
    → CountsNights nights (values_of rows.stays)
    → free_row_by kinds nights today d n kind ≡ free_row_on rows d n kind
free_by_rows kinds nights rows today d n kind is many taken =
    let made : Option ℕ → ℕ → (ℕ → ℕ) → FreeRow = λ day rooms at. record {
      kind = kind;
      rooms = rooms;
      free = if are_ahead day d n then rooms - greatest at d n else 0;
    } in
    λ i. made (is i) (many i) (λ x. taken kind x i)
