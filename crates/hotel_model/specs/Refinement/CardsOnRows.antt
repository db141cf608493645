-- What comes of a card for a room, once the checks of the party and the room have passed.
use Rattle.std.specs.Prelude.{ℕ, ◌<◌, ◌-◌, ◌^◌, List, [], ◌∷◌, Option, IsSome, is_some, is_none, nat_lt, nat_le}
use Rattle.std.specs.Prelude.{bytes_eq, length}
use Rattle.hotel_nights.specs.declared.stay.Stay.{Stay}
use Rattle.hotel_model.specs.{declared.change.Change.Change, declared.reply.Refusal.Refusal}
use Rattle.hotel_model.specs.{declared.rows.RoomRow.RoomRow, Words.is_that}
use Rattle.hotel_model.specs.declared.reply.Refusal.TheVariants.{NotBooked, TooEarly, StayOver, WrongKind, SameRoom}
use Rattle.hotel_model.specs.declared.reply.Refusal.TheVariants.{RoomTaken, NumbersUsedUp}
use Rattle.hotel_model.specs.{Stays.is_booked_state, Rows.Rows, Refinement.Lookups.room_at, Refinement.Lookups.code_at}
use Rattle.hotel_model.specs.{Refinement.Lookups.number_after}
use Rattle.hotel_model.specs.{Refinement.Change.codes_of, Outcome.Outcome, Outcome.needs, Outcome.bars, Outcome.unless}
use Rattle.hotel_model.specs.Refinement.OnRows.{issues_on}

-- a card of a new code for a party at a room, where a number is left; the party may leave another room
abbrev pub issued_on : Rows → List ℕ → ℕ → ℕ → Option ℕ → Outcome Change
issued_on rows ahead party room leaves =
    unless (bars (is_none (number_after (length rows.cards))) NumbersUsedUp ∷ [])
    (issues_on rows ahead party room leaves)

-- the room's last code is there, and it can have one more
abbrev pub HasCurrent : ℕ → RoomRow → Rows → Type 0
HasCurrent room row rows = IsSome (code_at rows room (row.codes - 1)) × (row.codes < 2 ^ 32 - 1)

-- the room and its last two codes are there
abbrev pub HasLink : ℕ → Rows → Type 0
HasLink room rows = IsSome (room_at rows room) × IsSome (code_at rows room (codes_of rows room - 2))
    × IsSome (code_at rows room (codes_of rows room - 1))

-- what bars a party from coming to a room on a day
abbrev pub bars_to_check_in : ℕ → RoomRow → Stay → List (Option Refusal)
bars_to_check_in day row stay =
    needs (is_booked_state stay.state) NotBooked ∷ bars (nat_lt day stay.arrive) TooEarly
    ∷ bars (nat_le stay.depart day) StayOver
    ∷ needs (bytes_eq row.kind stay.kind) WrongKind ∷ bars (is_some row.party) RoomTaken ∷ []

-- what bars a party in house from another room
abbrev pub bars_to_transfer : ℕ → RoomRow → Stay → List (Option Refusal)
bars_to_transfer party row stay = needs (bytes_eq row.kind stay.kind) WrongKind
    ∷ bars (is_that row.party party) SameRoom ∷ bars (is_some row.party) RoomTaken ∷ []
