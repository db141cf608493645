-- What is free of a kind, by the counts that books keep beside their rows.
use Rattle.std.specs.Prelude.{ℕ, ◌-◌, if◌then◌else◌, List, Option}
use Rattle.hotel_model.specs.declared.list_rows.FreeRow.{FreeRow}
use Rattle.hotel_model.specs.{Words.greatest, Lists.are_ahead}
use Rattle.hotel_books.specs.{KindRooms.rooms_in, NightIndex.counted}

-- the row of a kind, on a business day, for so many nights from a day on
abbrev pub free_row_by : List (List ℕ × ℕ) → List ((List ℕ × ℕ) × List ℕ) → Option ℕ → ℕ → ℕ → List ℕ → FreeRow
free_row_by kinds nights today d n kind = record {
  kind = kind;
  rooms = rooms_in kinds kind;
  free = if are_ahead today d n then rooms_in kinds kind - greatest (counted nights kind) d n else 0;
}
