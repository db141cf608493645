-- A call of the desk, in a building: what was proved of calls over books speaks of a desk that stands in a building.
use Rattle.std.specs.Prelude.{ℕ, ◌≡◌, ◌⊎◌, false, List, [], ◌∷◌, Some, All, Contains}
use Rattle.rand_core.specs.Stream.{Stream}
use Rattle.hotel_model.specs.declared.command.Command.{Command}
use Rattle.hotel_model.specs.declared.command.Command.TheVariants as command
use Rattle.hotel_model.specs.declared.reply.Reply.{Reply}
use Rattle.hotel_model.specs.Event.{Event}
use Rattle.hotel_model.specs.History.{History}
use Rattle.hotel_model.specs.Notes.{notes}
use Rattle.hotel_model.specs.Ranges.{IsCommand, IsReply}
use Rattle.hotel_model.specs.Run.{answered, Reached, Steps, Runs}
use Rattle.hotel_model.specs.Rows.{Rows}
use Rattle.hotel_model.specs.RowsOf.{rows_of}
use Rattle.hotel_model.specs.Leads.{Leads}
use Rattle.hotel_building.specs.Building.{Step, Accepted, Told, Forged, Building, ◌▸◌, door, desk, at_once, May}
use Rattle.hotel_building.specs.Building.{Reachable}
use Rattle.hotel_building.specs.Promises.{IsOfStaff}
use Rattle.hotel_building.specs.Faults.{is_bad, room_at_once, MayBut, ReachableBut}

-- What may be asked of the desk. A note is one that a lock made, in any order and however often it was told before; and
-- a room is refitted when nobody is inside.
abbrev pub MayAsk : Building → Command → Type 0
MayAsk b (command.Reported note) = Contains (notes (at_once b) note.room) note
MayAsk b (command.Refit room) = (door b room).inside ≡ []
MayAsk b _ = Unit {0}

-- the same, if the desk accepts the command, of what is said of such a command; what it refuses changes nothing
abbrev pub IfAccepted : (Building → Command → Type 0) → Building → Stream → Command → Type 0
IfAccepted may b source command =
    (event : Event) → (answered (desk b) source command).happens ≡ Some event → may b command

-- the step is made at the desk, and none at a door
abbrev pub IsOfDesk : Step → Type 0
IsOfDesk (Accepted event) = Unit {0}
IsOfDesk (Told room) = Unit {0}
IsOfDesk (Forged note) = Unit {0}
IsOfDesk _ = ⊥

-- the building stays, or one more step was made at its desk
abbrev pub GoesOn : Building → Building → Type 0
GoesOn b b' = (b' ≡ b) ⊎ ((step : Step) × IsOfDesk step × (b' ≡ b ▸ step))

-- After a call of a desk that stands in a building that can be, its history is the desk of such a building again, with
-- at most one step more at the desk: so all that is promised of it holds from call to call.
abbrev pub CallsStayInBuildings : Type 0
CallsStayInBuildings = (b : Building) (source left : Stream) (command : Command) (reply : Reply) (later : History)
    → Reachable b → IfAccepted MayAsk b source command → IsCommand command → IsReply reply
    → Steps (desk b) source command reply later left
    → (b' : Building) × Reachable b' × GoesOn b b' × (desk b' ≡ later)

-- So it is of books: where their rows stand for the desk of a building that can be, and a call leads on from there,
-- the rows after it stand for the desk of one again.
abbrev pub BooksStayInBuildings : Type 0
BooksStayInBuildings = (b : Building) (source left : Stream) (command : Command) (reply : Reply) (rows later : Rows)
    → Reachable b → rows ≡ rows_of (desk b) → IfAccepted MayAsk b source command → IsCommand command → IsReply reply
    → Leads rows (λ h h'. Steps h source command reply h' left) later
    → (b' : Building) × Reachable b' × GoesOn b b' × (later ≡ rows_of (desk b'))

-- ---- where doors may fail

-- What may be asked where doors may fail: any note of a bad room.
abbrev pub MayAskBut : Building → Command → Type 0
MayAskBut b (command.Reported note) =
    is_bad b note.room ≡ false → Contains (notes (room_at_once b note.room) note.room) note
MayAskBut b command = MayAsk b command

-- no other room is bad
abbrev pub NoMoreBad : Building → Building → Type 0
NoMoreBad b b' = (r : ℕ) → is_bad b r ≡ false → is_bad b' r ≡ false

-- After a call of a desk in a building that can be but for its faults, the desk stands in one again, and no other room
-- is bad.
abbrev pub CallsStayButForFaults : Type 0
CallsStayButForFaults = (b : Building) (source left : Stream) (command : Command) (reply : Reply) (later : History)
    → ReachableBut b → IfAccepted MayAskBut b source command → IsCommand command → IsReply reply
    → Steps (desk b) source command reply later left
    → (b' : Building) × ReachableBut b' × GoesOn b b' × (desk b' ≡ later) × NoMoreBad b b'

-- ---- calls one after the other

-- Which buildings are spoken of, which steps may be made in them, and what may be asked of their desks.
pub record Houses : Type 1 where
  pub can_be : Building → Type 0
  pub may_be_made : Building → Step → Type 0
  pub may_ask : Building → Command → Type 0

-- buildings without faults
abbrev pub faultless : Houses
faultless = record { can_be = Reachable; may_be_made = May; may_ask = MayAsk }

-- buildings whose doors may fail
abbrev pub but_for_faults : Houses
but_for_faults = record { can_be = ReachableBut; may_be_made = MayBut; may_ask = MayAskBut }

-- These steps are made at the desk, one after the other, and none at a door.
abbrev pub LedBy : Building → List Step → Building → Type 0
LedBy b [] b' = b' ≡ b
LedBy b (step ∷ steps) b' = IsOfDesk step × LedBy (b ▸ step) steps b'

-- the building, and then any steps at its desk alone: its doors stand as they stood, but for new locks
abbrev pub LedOn : Building → Building → Type 0
LedOn b b' = (steps : List Step) × LedBy b steps b'

-- Commands may be asked one after the other, with no step at a door between them: the first, if the desk accepts it,
-- and after it, however it is answered, the later ones in their turn.
abbrev pub MayRun : Houses → Building → Stream → List Command → Type 0
MayRun houses b source [] = Unit {0}
MayRun houses b source (command ∷ commands) = IfAccepted houses.may_ask b source command
    × ((next : Building) (reply : Reply) (left : Stream) → houses.can_be next → GoesOn b next
    → Steps (desk b) source command reply (desk next) left → MayRun houses next left commands)

-- After commands one after the other, a run, an import or a request, the desk stands in a building again. Their values
-- are in their ranges, so that the history to which they lead can be reached.
abbrev pub RunsStay : Houses → Type 0
RunsStay houses = (b : Building) (source left : Stream) (commands : List Command) (replies : List Reply)
    (later : History) → houses.can_be b → MayRun houses b source commands → Reached later
    → Runs (desk b) source commands replies later left
    → (b' : Building) × houses.can_be b' × LedOn b b' × NoMoreBad b b' × (desk b' ≡ later)

-- Without faults it is enough that each command may be asked where the first one is.
abbrev pub MayAllBeAsked : Type 0
MayAllBeAsked = (b : Building) (source : Stream) (commands : List Command) → All (MayAsk b) commands
    → MayRun faultless b source commands

-- So it is of notes where doors may fail.
abbrev pub NotesMayBeAsked : Type 0
NotesMayBeAsked = (b : Building) (source : Stream) (commands : List Command)
    → All (λ command. (IsOfStaff command → ⊥) × MayAskBut b command) commands
    → MayRun but_for_faults b source commands
