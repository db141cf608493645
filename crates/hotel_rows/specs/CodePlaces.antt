-- The codes of each room by their places.
use Rattle.std.specs.Prelude.{ℕ, ◌≡◌, ◌==◌, ◌&&◌, Bool, false, List, [], map, length}
use Rattle.std.specs.List.{count_by}
use Rattle.std.specs.Map.{keys_of, values_of}
use Rattle.hotel_model.specs.declared.rows.CodeRow.{CodeRow}
use Rattle.hotel_model.specs.Words.{said_of}
use Rattle.hotel_model.specs.Rows.{at_number, codes_by_place, last_link_of}
use Rattle.hotel_model.specs.Cards.{same_link}
use Rattle.keycard_rules.specs.declared.card.Link.{Link}
use Rattle.hotel_model.specs.SoundRooms.{count_up}
use Rattle.hotel_rows.specs.declared.damage.code_places.Placed.{Placed}
use Rattle.hotel_rows.specs.declared.stored.PlainCode.{PlainCode}
use Rattle.hotel_rows.specs.declared.stored.PlainRoom.{PlainRoom}
use Rattle.hotel_rows.specs.Stored.{number_of, code_entry}

-- the codes of a room by place
abbrev pub places_in : List (ℕ × Placed) → ℕ → List (ℕ × ℕ)
places_in placed room = said_of (at_number placed room) [] (λ p. p.by_place.entries)

-- how many codes a room has
abbrev pub listed_in : List (ℕ × Placed) → ℕ → ℕ
listed_in placed room = said_of (at_number placed room) 0 (λ p. p.listed)

-- the map has the codes of each room
abbrev pub PlacesOf : List (ℕ × Placed) → List PlainCode → Type 0
PlacesOf placed plain_rows = (room : ℕ) → (places_in placed room ≡ codes_by_place (map code_entry plain_rows) room)
    × (listed_in placed room ≡ count_by (λ (row : CodeRow). row.room == room) (values_of (map code_entry plain_rows)))

-- the places of the room's codes are 0 and on, each once, so many
abbrev pub are_due_at : List (ℕ × Placed) → ℕ → ℕ → Bool
are_due_at placed room codes =
    count_up 0 (keys_of (places_in placed room)) && (length (values_of (places_in placed room)) == codes)
    && (listed_in placed room == codes)

-- the same, as many as the room's row says
abbrev pub placed_as_due : List (ℕ × Placed) → PlainRoom → Bool
placed_as_due placed plain = are_due_at placed (number_of plain.room) (number_of plain.codes)

-- the room's last two codes are this link
abbrev pub is_last_link : List (ℕ × Placed) → ℕ → Link → Bool
is_last_link placed room link =
    said_of (last_link_of (values_of (places_in placed room))) false (λ newest. same_link newest link)
