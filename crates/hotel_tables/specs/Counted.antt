-- The counts that stand beside the tables, before and after a change of the rows.
use Rattle.std.specs.Prelude.{◌≡◌, ℕ, ◌+◌, ◌-◌, ◌<◌, ◌^◌, true, List, Option, Some, None, bytes_eq}
use Rattle.std.specs.Map.{keys_of}
use Rattle.hotel_nights.specs.declared.stay.Stay.{Stay}
use Rattle.hotel_nights.specs.Block.{one_if}
use Rattle.hotel_nights.specs.FullNight.{takes}
use Rattle.hotel_model.specs.declared.change.Change.{Change}
use Rattle.hotel_model.specs.declared.change.Change.TheVariants.{Kind, Room, Reserved, Cancelled, CheckedOut}
use Rattle.hotel_model.specs.Rows.{Rows}
use Rattle.hotel_model.specs.Refinement.Lookups.{stay_at}
use Rattle.hotel_books.specs.KindRooms.{is_there, rooms_in}
use Rattle.hotel_books.specs.NightIndex.{counted}

-- the stay that a change books
abbrev pub booked_by : Change → Option Stay
booked_by (Reserved stay) = Some stay
booked_by _ = None

-- the stay that a change ends, as it stood
abbrev pub ended_by : Change → Rows → Option Stay
ended_by (Cancelled party) rows = stay_at rows party
ended_by (CheckedOut party room) rows = stay_at rows party
ended_by _ rows = None

-- one at each night that the stay takes, if there is a stay
abbrev pub nights_of : Option Stay → List ℕ → ℕ → ℕ
nights_of None kind d = 0
nights_of (Some stay) kind d = one_if (takes kind d stay)

-- the stay is counted, where counts are below 2^63
abbrev pub CountsMore : Option Stay → List ((List ℕ × ℕ) × List ℕ) → List ((List ℕ × ℕ) × List ℕ) → Type 0
CountsMore stay old new = (kind : List ℕ) (d : ℕ) → counted old kind d < 2 ^ 63
    → counted new kind d ≡ counted old kind d + nights_of stay kind d

-- the stay is counted no longer
abbrev pub CountsLess : Option Stay → List ((List ℕ × ℕ) × List ℕ) → List ((List ℕ × ℕ) × List ℕ) → Type 0
CountsLess stay old new = (kind : List ℕ) (d : ℕ) → counted new kind d ≡ counted old kind d - nights_of stay kind d

-- The kinds that were there still are, and each has as many rooms.
pub record KeepsRooms (old new : List (List ℕ × ℕ)) : Type 0 where
  pub there : (kind : List ℕ) → is_there old kind ≡ true → is_there new kind ≡ true
  pub rooms : (kind : List ℕ) → rooms_in new kind ≡ rooms_in old kind

-- the kind that a change adds is there
abbrev pub HasItsKind : Change → List (List ℕ × ℕ) → Type 0
HasItsKind (Kind kind) kinds = is_there kinds kind ≡ true
HasItsKind _ kinds = Unit {0}

-- A kind that is there has one room more.
pub record CountsRoom (kind : List ℕ) (old new : List (List ℕ × ℕ)) : Type 0 where
  pub kinds : keys_of new ≡ keys_of old
  pub rooms : is_there old kind ≡ true → rooms_in old kind < 2 ^ 32 - 1 → (k : List ℕ)
      → rooms_in new k ≡ rooms_in old k + one_if (bytes_eq kind k)

-- the room that a change adds is counted
abbrev pub CountsItsRoom : Change → List (List ℕ × ℕ) → List (List ℕ × ℕ) → Type 0
CountsItsRoom (Room room kind code) old new = CountsRoom kind old new
CountsItsRoom _ old new = new ≡ old
