-- The kinds, each with how many rooms it has.
use Rattle.std.specs.Prelude.{ℕ, ◌≡◌, Bool, List, [], ◌∷◌, bytes_eq}
use Rattle.std.specs.List.{list_any}
use Rattle.std.specs.Option.{unwrap_or}
use Rattle.std.specs.Ordering.{nat_cmp}
use Rattle.std.specs.Cmp.Lexicographic.{slice_cmp}
use Rattle.std.specs.BTreeMap.{is_at}
use Rattle.std.specs.Map.{lookup, keys_of}
use Rattle.keycard_rules.specs.{Numbers.IsNumberUpTo, declared.numbers.TheConstants.LAST_ROOM}
use Rattle.hotel_model.specs.{declared.rows.RoomRow.RoomRow, Rows.rooms_of_kind}

-- the kind is there
abbrev pub is_there : List (List ℕ × ℕ) → List ℕ → Bool
is_there counts kind = list_any (λ k. bytes_eq k kind) (keys_of counts)

-- how many rooms are counted of a kind: none, where it isn't there
abbrev pub rooms_in : List (List ℕ × ℕ) → List ℕ → ℕ
rooms_in counts kind = unwrap_or (lookup (is_at (slice_cmp nat_cmp kind)) counts) 0

-- Each room is kept under a room's number.
abbrev pub HaveRoomNumbers : List (ℕ × RoomRow) → Type 0
HaveRoomNumbers [] = Unit {0}
HaveRoomNumbers (e ∷ es) = IsNumberUpTo LAST_ROOM e.0 × HaveRoomNumbers es

-- As many rooms of each kind are counted as there are, and each has a room's number.
pub record RoomsKnown (kinds : List (List ℕ × ℕ)) (rooms : List (ℕ × RoomRow)) : Type 0 where
  pub counts : (kind : List ℕ) → rooms_in kinds kind ≡ rooms_of_kind rooms kind
  pub numbers : HaveRoomNumbers rooms
