-- Where stored rows stand.
use Rattle.std.specs.Prelude.{ℕ, ◌≡◌, ◌-◌, nat_le, List, map, Option, Some, None, if◌then◌else◌}
use Rattle.hotel_model.specs.Rows.{at_number}
use Rattle.hotel_rows.specs.declared.stored.Stored.{Stored}
use Rattle.hotel_rows.specs.declared.damage.by_key.Index.{Index}
use Rattle.hotel_rows.specs.declared.damage.by_key.Index.TheVariants as index
use Rattle.hotel_rows.specs.declared.damage.by_key.Places.{Places}
use Rattle.hotel_rows.specs.Keys.{place_in, room_key, stay_key, code_key, card_key}

-- where a key stands among 1 and on, so many
abbrev pub counted_place : ℕ → ℕ → Option ℕ
counted_place len q = if nat_le 1 q then (if nat_le q len then Some (q - 1) else None) else None

-- where an index says that a key stands first
abbrev pub place_at : Index → ℕ → Option ℕ
place_at (index.Counted len) q = counted_place len q
place_at (index.Listed places) q = at_number places.entries q

-- the index has where each key stands first
abbrev pub Indexes : Index → List ℕ → Type 0
Indexes index keys = (q : ℕ) → place_at index q ≡ place_in keys q

-- The places are those of the rows.
pub record AreOf (places : Places) (s : Stored) : Type 0 where
  pub rooms : Indexes places.rooms (map room_key s.room.items)
  pub stays : Indexes places.stays (map stay_key s.stay.items)
  pub codes : Indexes places.codes (map code_key s.code.items)
  pub cards : Indexes places.cards (map card_key s.card.items)
