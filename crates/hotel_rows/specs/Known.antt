-- What is known of stored rows, beside them.
use Rattle.std.specs.Prelude.{ℕ, ◌≡◌, true, List}
use Rattle.hotel_model.specs.SoundRooms.{kinds_read}
use Rattle.hotel_rows.specs.declared.damage.known.Known.{Known}
use Rattle.hotel_rows.specs.declared.stored.Stored.{Stored}
use Rattle.hotel_rows.specs.Stored.{plain_fits, rows_of}
use Rattle.hotel_rows.specs.Places.{AreOf}
use Rattle.hotel_rows.specs.FitRuns.{FitsOf}
use Rattle.hotel_rows.specs.CodePlaces.{PlacesOf}
use Rattle.hotel_rows.specs.RowTests.{HasKinds}

-- The kinds of the rows read as such, and the map has exactly these.
pub record KindsOf (kinds : List (List ℕ × ℕ)) (s : Stored) : Type 0 where
  pub read : kinds_read (rows_of s) ≡ true
  pub known : HasKinds kinds (rows_of s).kinds

-- What is known is of these rows.
pub record IsOfRows (known : Known) (s : Stored) : Type 0 where
  pub places : AreOf known.places s
  pub fits : FitsOf known.fits (plain_fits s)
  pub placed : PlacesOf known.placed.entries s.code.items
