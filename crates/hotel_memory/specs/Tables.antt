-- How books in memory keep their tables.
use Rattle.std.specs.Prelude.{ℕ, ◌≡◌, ◌≤◌, ◌<◌, ◌^◌, List, [], ◌∷◌, None}
use Rattle.std.specs.Map.{lookup, values_of}
use Rattle.std.specs.BTreeMap.{is_at}
use Rattle.keycard_rules.specs.{Note.Note, Numbers.IsNumberUpTo}
use Rattle.keycard_rules.specs.declared.numbers.TheConstants.{LAST_NUMBER, LAST_ROOM}
use Rattle.hotel_nights.specs.declared.stay.Stay.{Stay}
use Rattle.hotel_model.specs.{declared.rows.RoomRow.RoomRow, declared.rows.CodeRow.CodeRow, Words.pair_cmp}
use Rattle.hotel_model.specs.Rows.{Rows, PlaceKey, InsideKey, NoteKey, column_at, rooms_of_kind}
use Rattle.hotel_model.specs.{Refinement.Lookups.first_code_at}
use Rattle.hotel_books.specs.KindRooms.{RoomsKnown}

-- the rows, and how many calls found no memory
pub record Listed : Type 0 where
  pub rows : Rows
  pub failures : ℕ

-- The table of places answers as a search through the codes does.
abbrev pub PlacesAgree : List (ℕ × CodeRow) → List (PlaceKey × ℕ) → Type 0
PlacesAgree codes places =
    (room place : ℕ) → lookup (is_at (pair_cmp (room, place))) places ≡ first_code_at codes room place

-- At each room, the places from its number of codes on are free (all places, where the room isn't there).
abbrev pub LaterPlacesFree : List (ℕ × RoomRow) → List (ℕ × CodeRow) → Type 0
LaterPlacesFree rooms codes =
    (room place : ℕ) → column_at rooms room (λ row. row.codes) ≤ place → first_code_at codes room place ≡ None

-- The tables of kinds, rooms and codes agree.
pub record TablesAgree (kinds : List (List ℕ × ℕ)) (rooms : List (ℕ × RoomRow))
    (codes : List (ℕ × CodeRow)) : Type 0 where
  pub places : LaterPlacesFree rooms codes
  pub rooms_known : RoomsKnown kinds rooms

-- Each key's second number is a card's.
abbrev pub HaveCardNumbers : List InsideKey → Type 0
HaveCardNumbers [] = Unit {0}
HaveCardNumbers (e ∷ es) = IsNumberUpTo LAST_NUMBER e.1 × HaveCardNumbers es

-- Each note is kept under a number of 32 bits.
abbrev pub HaveCounts : List (NoteKey × Note) → Type 0
HaveCounts [] = Unit {0}
HaveCounts (e ∷ es) = (e.0.1 < 2 ^ 32) × HaveCounts es
