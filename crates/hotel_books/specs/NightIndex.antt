-- The standing stays of each kind and night, counted.
use Rattle.std.specs.Prelude.{◌≡◌, ℕ, ◌/◌, ◌%◌, ◌<◌, Bool, ◌&&◌, List, [], ◌∷◌, nat_le, nat_lt, bytes_eq, slice_index}
use Rattle.std.specs.Option.{unwrap_or}
use Rattle.std.specs.Ordering.{nat_cmp, ordering_then}
use Rattle.std.specs.Cmp.Lexicographic.{slice_cmp}
use Rattle.std.specs.declared.cmp.Ordering.{Ordering}
use Rattle.std.specs.BTreeMap.{is_at}
use Rattle.std.specs.Map.{lookup, values_of}
use Rattle.hotel_nights.specs.{declared.stay.Stay.Stay, FullNight.nights_taken}

-- by the kind, and then by the block
abbrev pub block_cmp : List ℕ × ℕ → List ℕ × ℕ → Ordering
block_cmp a b = ordering_then (slice_cmp nat_cmp a.0 b.0) (nat_cmp a.1 b.1)

-- the counts of a block of nights of a kind: none, where none of them is taken
abbrev pub block_at : List ((List ℕ × ℕ) × List ℕ) → List ℕ → ℕ → List ℕ
block_at blocks kind block = unwrap_or (lookup (is_at (block_cmp (kind, block))) blocks) []

-- how many stays are counted at a night of a kind: the nights are kept in blocks of 32
abbrev pub counted : List ((List ℕ × ℕ) × List ℕ) → List ℕ → ℕ → ℕ
counted blocks kind d = slice_index (block_at blocks kind (d / 32)) (d % 32)

-- a stay is counted at one of a block's nights
abbrev pub HasTakenNight : List ℕ → Type 0
HasTakenNight counts = (place : ℕ) × (0 < slice_index counts place)

-- Each block that is kept has a taken night: so no memory is kept for nights that no stay takes any more.
abbrev pub HasNoEmptyBlock : List ((List ℕ × ℕ) × List ℕ) → Type 0
HasNoEmptyBlock [] = Unit {0}
HasNoEmptyBlock (e ∷ es) = HasTakenNight e.1 × HasNoEmptyBlock es

-- it is one of the nights from `arrive` on and before `depart`, of this kind
abbrev pub spans : List ℕ → ℕ → ℕ → List ℕ → ℕ → Bool
spans kind arrive depart k d = bytes_eq kind k && (nat_le arrive d && nat_lt d depart)

-- what is counted is what standing stays of these take
abbrev pub CountsNights : List ((List ℕ × ℕ) × List ℕ) → List Stay → Type 0
CountsNights blocks stays = (kind : List ℕ) (d : ℕ) → counted blocks kind d ≡ nights_taken stays kind d

-- The index has what the stays take.
abbrev pub CountsNightsOf : List ((List ℕ × ℕ) × List ℕ) → List (ℕ × Stay) → Type 0
CountsNightsOf blocks stays = CountsNights blocks (values_of stays)
