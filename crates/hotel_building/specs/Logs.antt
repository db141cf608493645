-- The locks of a building as crates/hotel_lock runs them: each keeps all its notes, and knows from them alone which
-- cards are inside.
use Rattle.std.specs.Prelude.{ℕ, ◌≡◌, ◌↔◌, ◌==◌, [], IsSome}
use Rattle.keycard_rules.specs.declared.card.Card.{Card}
use Rattle.hotel_nights.specs.Moments.{Moment}
use Rattle.hotel_model.specs.Words.{when}
use Rattle.hotel_model.specs.Rows.{no_rows}
use Rattle.hotel_model.specs.Event as event
use Rattle.hotel_model.specs.History.{start}
use Rattle.hotel_model.specs.Notes.{notes_of}
use Rattle.hotel_model.specs.Refits.{present_fit}
use Rattle.hotel_lock.specs.Door.{fitted}
use Rattle.hotel_lock.specs.Log.{shows, goes_out, sets}
use Rattle.hotel_lock.specs.Logged.{Logged, logged_after}
use Rattle.hotel_building.specs.Building.{Building, opened, ◌▸◌, Accepted, Shown, GoesOut, SetTo, first_door, door}
use Rattle.hotel_building.specs.Building.{at_once, IsIssued, CanNote, IsNotedInside, Reachable}

-- a new lock of a room, with no note
abbrev pub new_log : ℕ → ℕ → ℕ → Logged
new_log room fit code = record { first = code; lock = fitted room fit code; notes = [] }

-- a lock with its log, set to a code
abbrev pub set_to : ℕ → Moment → Logged → Logged
set_to code at l = logged_after l (sets l.lock code at)

-- The lock of each door with its log: it does what is done at its door.
abbrev pub logged : Building → ℕ → Logged
logged (opened t) r = record (new_log r 0 0) { lock = (first_door (start t) r).lock }
logged (b ▸ Accepted (event.Install room kind code)) r = when (room == r) (λ _. new_log room 1 code) (logged b r)
logged (b ▸ Accepted (event.Refitted room fit code)) r = when (room == r) (λ _. new_log room fit code) (logged b r)
logged (b ▸ Shown room card at) r =
    when (room == r) (λ l. logged_after l (shows l.lock card.number card.link at)) (logged b r)
logged (b ▸ GoesOut room card at) r =
    when (room == r) (λ l. logged_after l (goes_out l.lock l.notes card.number card.link at)) (logged b r)
logged (b ▸ SetTo room code at) r = when (room == r) (set_to code at) (logged b r)
logged (b ▸ _) r = logged b r

-- the building opened with an empty desk
abbrev pub OpensEmpty : Building → Type 0
OpensEmpty (opened t) = t ≡ no_rows
OpensEmpty (b ▸ step) = OpensEmpty b

-- A lock with its log notes the exit of a card exactly where it may be noted.
abbrev pub NotesExits : Building → ℕ → Type 0
NotesExits b r = (card : Card) (at : Moment) → IsIssued b card → CanNote b r at
    → IsSome (goes_out (logged b r).lock (logged b r).notes card.number card.link at)
    ↔ IsNotedInside (door b r) card.number

-- The log of a lock is what is told of it: the notes that its desk would have of the present lock if it heard all.
abbrev pub LogIsTold : Building → ℕ → Type 0
LogIsTold b r = (logged b r).notes ≡ notes_of (at_once b) r (present_fit (at_once b) r)

-- The doors of a building that opened empty have the locks that keep their logs; these note exits where they may be
-- noted; and their logs are what is told.
abbrev pub LogsAreDoors : Type 0
LogsAreDoors = (b : Building) → Reachable b → OpensEmpty b → (r : ℕ)
    → ((logged b r).lock ≡ (door b r).lock) × NotesExits b r × LogIsTold b r
