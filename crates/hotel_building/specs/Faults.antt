-- A fault harms only its door, until the room's lock is replaced.
use Rattle.std.specs.Prelude.{ℕ, ◌≡◌, ◌==◌, ◌&&◌, ◌||◌, Bool, false, not, List, Some}
use Rattle.keycard_rules.specs.Note.{Note}
use Rattle.hotel_model.specs.declared.command.Command.TheVariants as command
use Rattle.hotel_model.specs.Words.{when}
use Rattle.hotel_model.specs.Event as event
use Rattle.hotel_model.specs.History.{History, start, ◌▷◌}
use Rattle.hotel_model.specs.Sound.{IsSound}
use Rattle.hotel_model.specs.Answer.{answer_to}
use Rattle.hotel_model.specs.Ranges.{InRange}
use Rattle.hotel_model.specs.Run.{Reached}
use Rattle.hotel_model.specs.Headline.{Assured}
use Rattle.hotel_lock.specs.Door.{enters, leaves, is_set}
use Rattle.hotel_building.specs.Building.{Step, Accepted, Shown, GoesOut, SetTo, Told, Fails, Forged, Building, opened}
use Rattle.hotel_building.specs.Building.{◌▸◌, door, desk, event_of, after_first, after_act, CanNote, MaySet, May}
use Rattle.hotel_building.specs.Building.{Reachable}
use Rattle.hotel_building.specs.Promises.{PromisedAt, PromisedOf}

-- A room is bad from a fault of its door, or a note of it that may be forged, until it has a new lock.
abbrev pub is_bad : Building → ℕ → Bool
is_bad (opened t) r = false
is_bad (b ▸ Accepted (event.Install room kind code)) r = not (room == r) && is_bad b r
is_bad (b ▸ Accepted (event.Refitted room fit code)) r = not (room == r) && is_bad b r
is_bad (b ▸ Fails room after) r = (room == r) || is_bad b r
is_bad (b ▸ Forged note) r = (note.room == r) || is_bad b r
is_bad (b ▸ _) r = is_bad b r

-- What a desk would have that hears each note of one room at once, and those of the others as the desk does. With a new
-- lock of the room it begins anew, from what the desk has.
abbrev pub room_at_once : Building → ℕ → History
room_at_once (opened t) r = start t
room_at_once (b ▸ Accepted (event.Install room kind code)) r =
    when (room == r) (λ _. desk b) (room_at_once b r) ▷ event.Install room kind code
room_at_once (b ▸ Accepted (event.Refitted room fit code)) r =
    when (room == r) (λ _. desk b) (room_at_once b r) ▷ event.Refitted room fit code
room_at_once (b ▸ Accepted event) r = room_at_once b r ▷ event
room_at_once (b ▸ Shown room card at) r =
    when (room == r) (λ h. after_act h (enters (door b room).lock card.number card.link at)) (room_at_once b r)
room_at_once (b ▸ GoesOut room card at) r =
    when (room == r) (λ h. h ▷ event_of (leaves (door b room).lock card.number card.link at).note) (room_at_once b r)
room_at_once (b ▸ SetTo room code at) r =
    when (room == r) (λ h. after_act h (is_set (door b room).lock code at)) (room_at_once b r)
room_at_once (b ▸ Told room) r =
    when (not (room == r)) (λ h. after_first h (door b room).unread) (room_at_once b r)
room_at_once (b ▸ Forged note) r = room_at_once b r ▷ event_of note
room_at_once (b ▸ _) r = room_at_once b r

-- the desk takes the note
abbrev pub IsTaken : History → Note → Type 0
IsTaken h note = (ahead : List ℕ) × ((answer_to h ahead (command.Reported note)).happens ≡ Some (event_of note))
    × InRange (event_of note)

-- What each step needs where there may be faults. A door may fail at any time, in any way, and the desk may take any
-- note, whoever made it: its room is then bad. All other steps need what they do without faults.
abbrev pub MayBut : Building → Step → Type 0
MayBut b (SetTo room code at) = CanNote b room at × MaySet (room_at_once b room) (door b room) room code
MayBut b (Told room) = is_bad b room ≡ false
MayBut b (Fails room after) = Unit {0}
MayBut b (Forged note) = IsTaken (desk b) note
MayBut b step = May b step

-- A building can be, but for its faults.
abbrev pub ReachableBut : Building → Type 0
ReachableBut (opened t) = IsSound t
ReachableBut (b ▸ step) = ReachableBut b × MayBut b step

-- Whatever happens at bad rooms, the headline holds of the desk, and at each other room is so what is promised.
abbrev pub FaultsHarmTheirDoors : Type 0
FaultsHarmTheirDoors = (b : Building) → ReachableBut b → Reached (desk b) × Assured (desk b)
    × ((r : ℕ) → is_bad b r ≡ false → PromisedOf b (room_at_once b r) × PromisedAt b (room_at_once b r) r)

-- A building without faults is one of these, and no room of it is bad.
abbrev pub NoFaultIsOne : Type 0
NoFaultIsOne = (b : Building) → Reachable b → ReachableBut b × ((r : ℕ) → is_bad b r ≡ false)
