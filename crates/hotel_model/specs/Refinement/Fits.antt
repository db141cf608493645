-- When a change fits the rows.
use Rattle.std.specs.Prelude.{◌≡◌, ◌<◌, ◌-◌, ◌^◌, ◌+◌, Bool, true, false, None, IsSome, length}
use Rattle.hotel_model.specs.{declared.change.Change.Change, Words.said_of, Rows.Rows, Rows.has_kind}
use Rattle.hotel_model.specs.declared.change.Change.TheVariants as change
use Rattle.hotel_model.specs.declared.command.Command.{Command}
use Rattle.hotel_model.specs.declared.command.Command.TheVariants as command
use Rattle.hotel_nights.specs.declared.stay.StayState.TheVariants as state
use Rattle.hotel_nights.specs.FullNight.{is_standing}
use Rattle.hotel_model.specs.{Refinement.Lookups.room_at, Refinement.Lookups.code_place, Refinement.Lookups.stay_at}
use Rattle.hotel_model.specs.{Refinement.Lookups.note_numbered, Refinement.Change.made, Refinement.Change.codes_of}
use Rattle.hotel_model.specs.{Refinement.Change.before_in, Rows.fit_at}
use Rattle.hotel_model.specs.Sound.{IsSound}

-- The rows that the change names are there, and those that it adds are new; parties and cards are numbered on.
abbrev pub HasItsRows : Change → Rows → Type 0
HasItsRows (change.Begin day) rows = rows.day ≡ None
HasItsRows (change.DayTo day) rows = IsSome rows.day
HasItsRows (change.Kind kind) rows = has_kind rows kind ≡ false
HasItsRows (change.Room room kind code) rows = (has_kind rows kind ≡ true) × (room_at rows room ≡ None)
    × (code_place rows code ≡ None) × (fit_at rows room 1 ≡ None)
HasItsRows (change.Reserved stay) rows =
    (stay.party ≡ length rows.stays + 1) × (stay.state ≡ state.Booked) × (stay_at rows stay.party ≡ None)
HasItsRows (change.Cancelled party) rows = IsSome (stay_at rows party)
HasItsRows (change.Issue card room leaves) rows =
    IsSome (room_at rows room) × (codes_of rows room < 2 ^ 32 - 1) × (code_place rows card.link.new_code ≡ None)
    × (card.number ≡ length rows.cards + 1) × IsSome (stay_at rows card.party)
    × (said_of (stay_at rows card.party) true (λ stay. is_standing stay.state) ≡ true)
HasItsRows (change.Spare card) rows = card.number ≡ length rows.cards + 1
HasItsRows (change.CheckedOut party room) rows = IsSome (stay_at rows party) × IsSome (room_at rows room)
HasItsRows (change.Refit room code fit) rows = IsSome (room_at rows room) × (codes_of rows room < 2 ^ 32 - 1)
    × (code_place rows code ≡ None) × (fit_at rows room fit ≡ None)
HasItsRows (change.Noted note lock_place secured insides) rows = IsSome (room_at rows note.room)
    × (note_numbered rows note.room (before_in rows note.room + note.count) ≡ None)
    × (before_in rows note.room + note.count < 2 ^ 32)

-- A change fits where it has its rows and what it makes is sound.
abbrev pub Fits : Change → Rows → Type 0
Fits change rows = HasItsRows change rows × IsSound (made change rows)

-- The change adds a row in memory: the first and the next day, a booking given up and a stay that ends add none.
abbrev pub takes_memory : Change → Bool
takes_memory (change.Begin day) = false
takes_memory (change.DayTo day) = false
takes_memory (change.Cancelled party) = false
takes_memory (change.CheckedOut party room) = false
takes_memory _ = true

-- the commands that take no memory: the first business day and the next one
abbrev pub takes_none : Command → Bool
takes_none (command.Begin day) = true
takes_none command.NextDay = true
takes_none _ = false
