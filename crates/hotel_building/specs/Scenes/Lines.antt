-- A scene of a building: lines over an empty desk, and what holds where they are played.
use Rattle.std.specs.Prelude.{ℕ, ◌≡◌, Bool, List, [], ◌∷◌, ◌++◌, Option, Some, None, is_some, length, take, drop}
use Rattle.keycard_rules.specs.declared.card.Card.{Card}
use Rattle.keycard_rules.specs.declared.draw.TheConstants.{MOST_WORDS}
use Rattle.keycard_rules.specs.Note.{Note}
use Rattle.hotel_model.specs.declared.command.Command.{Command}
use Rattle.hotel_model.specs.declared.command.Command.TheVariants as command
use Rattle.hotel_model.specs.declared.reply.Reply.{Reply}
use Rattle.hotel_model.specs.declared.reply.Reply.TheVariants as reply
use Rattle.hotel_model.specs.Rows.{no_rows}
use Rattle.hotel_model.specs.Event.{Event}
use Rattle.hotel_model.specs.History.{History}
use Rattle.hotel_model.specs.Lock.{held}
use Rattle.hotel_model.specs.Ledger.{awaited}
use Rattle.hotel_model.specs.Guests.{inside, secured}
use Rattle.hotel_model.specs.Outcome.{Outcome}
use Rattle.hotel_model.specs.Answer.{answer_to}
use Rattle.hotel_model.specs.Scenes.Words.{M}
use Rattle.hotel_model.specs.Scenes.Lines.{source}
use Rattle.hotel_lock.specs.Door.{enters}
use Rattle.hotel_building.specs.Building.{Accepted, Shown, GoesOut, SlipsOut, SetTo, Told, Fails, Forged, Building}
use Rattle.hotel_building.specs.Building.{opened, ◌▸◌, Door, door, desk, Reachable}
use Rattle.hotel_building.specs.Promises.{Promised}
use Rattle.hotel_building.specs.Faults.{is_bad, ReachableBut}

infix 70 ◌⇒◌
-- A line of a scene.
pub data Line : Type 0 where
  -- a command of the staff, and the desk's reply
  ◌⇒◌ : Command → Reply → Line
  -- a card is shown at a door, and whether the lock opens
  Shows : (room : ℕ) → Card → Bool → Line
  -- a card goes out, and the lock notes it
  Goes : (room : ℕ) → Card → Line
  -- a card goes out, and nothing notes it
  Slips : (room number : ℕ) → Line
  -- staff set a lock to a code
  Sets : (room code : ℕ) → Line
  -- the desk is told the next note of a door, and its reply
  Tells : (room : ℕ) → Reply → Line
  -- what the desk says of a room: the held code, the awaited ones, the cards inside, and whether it is secured
  Says : (room code : ℕ) → List ℕ → List ℕ → Bool → Line
  -- what is so at a door: the code that the lock holds, how many notes the desk has not heard, and the cards inside
  IsSo : (room code unread : ℕ) → List ℕ → Line
  -- a fault: a door is then so, whatever its lock did, and whichever cards came in
  Breaks : (room : ℕ) → Door → Line
  -- a fault: the desk takes a note that no lock made
  Forges : Note → Line
  -- whether a room is bad
  IsBad : (room : ℕ) → Bool → Line

-- what playing lines comes to: the same lines as they come out, and the building at their end
pub record Played : Type 0 where
  pub lines : List Line
  pub building : Building

abbrev pub first_line : Line → Played → Played
first_line line played = record played { lines = line ∷ played.lines }

-- the building after a command, if it was accepted
abbrev pub after_command : Building → Option Event → Building
after_command b (Some event) = b ▸ Accepted event
after_command b None = b

abbrev pub go_on : Command → Outcome Event → (Outcome Event → Played) → Played
go_on command outcome later = first_line (command ⇒ outcome.reply) (later outcome)

-- what the desk replies to the first of some notes; it has seen what isn't there
abbrev pub reply_to : History → List Note → Reply
reply_to h (note ∷ later) = (answer_to h [] (command.Reported note)).reply
reply_to h [] = reply.Seen

-- what the desk says of a room
abbrev pub says : Building → ℕ → Line
says b r = Says r (held (desk b) r) (awaited (desk b) r) (inside (desk b) r) (secured (desk b) r)

-- what is so at its door
abbrev pub is_so : Door → ℕ → Line
is_so d r = IsSo r d.lock.held (length d.unread) d.inside

-- The lines as they come out, where these are the words of the source.
abbrev pub play : Building → List ℕ → List Line → Played
play b ahead [] = record { lines = []; building = b }
play b ahead ((command ⇒ _) ∷ lines) = go_on command (answer_to (desk b) (take MOST_WORDS ahead) command)
    (λ outcome. play (after_command b outcome.happens) (drop outcome.examined ahead) lines)
play b ahead (Shows room card _ ∷ lines) =
    first_line (Shows room card (is_some (enters (door b room).lock card.number card.link M)))
    (play (b ▸ Shown room card M) ahead lines)
play b ahead (Goes room card ∷ lines) = first_line (Goes room card) (play (b ▸ GoesOut room card M) ahead lines)
play b ahead (Slips room number ∷ lines) =
    first_line (Slips room number) (play (b ▸ SlipsOut room number) ahead lines)
play b ahead (Sets room code ∷ lines) = first_line (Sets room code) (play (b ▸ SetTo room code M) ahead lines)
play b ahead (Tells room _ ∷ lines) =
    first_line (Tells room (reply_to (desk b) (door b room).unread)) (play (b ▸ Told room) ahead lines)
play b ahead (Says room _ _ _ _ ∷ lines) = first_line (says b room) (play b ahead lines)
play b ahead (IsSo room _ _ _ ∷ lines) = first_line (is_so (door b room) room) (play b ahead lines)
play b ahead (Breaks room after ∷ lines) = first_line (Breaks room after) (play (b ▸ Fails room after) ahead lines)
play b ahead (Forges note ∷ lines) = first_line (Forges note) (play (b ▸ Forged note) ahead lines)
play b ahead (IsBad room _ ∷ lines) = first_line (IsBad room (is_bad b room)) (play b ahead lines)

-- the lines played over an empty desk, where the source gives these codes and then the last one for ever
abbrev pub played : List ℕ → ℕ → List Line → Played
played codes last lines = play (opened no_rows) (source codes last) lines

-- The scene holds: the lines come out so, and the building at their end can be.
abbrev pub Holds : List ℕ → ℕ → List Line → Type 0
Holds codes last lines = ((played codes last lines).lines ≡ lines) × Reachable (played codes last lines).building

-- The scene of a fault holds: the lines come out so, and but for its faults the building at their end can be.
abbrev pub HoldsBut : List ℕ → ℕ → List Line → Type 0
HoldsBut codes last lines =
    ((played codes last lines).lines ≡ lines) × ReachableBut (played codes last lines).building

-- A premise is needed. What happened before can be; after a step without the premise what is promised doesn't hold; and
-- all lines come out so.
abbrev pub IsNeeded : List ℕ → ℕ → List Line → List Line → List Line → Type 0
IsNeeded codes last before step later = Reachable (played codes last before).building
    × (Promised (played codes last (before ++ step)).building → ⊥)
    × ((played codes last (before ++ step ++ later)).lines ≡ before ++ step ++ later)
