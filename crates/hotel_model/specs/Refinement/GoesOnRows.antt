-- A step on rows: it goes as the outcome says, or it fails and changes nothing.
use Rattle.std.specs.Prelude.{ℕ, ◌≡◌, ◌≤◌, ◌<◌, ◌-◌, ◌^◌, Bool, true, false, Option, Some, None, IsSome}
use Rattle.keycard_rules.specs.{Draw.past, Draw.MovedAtMost, declared.card.Card.Card}
use Rattle.rand_core.specs.Stream.{Stream}
use Rattle.hotel_model.specs.{declared.change.Change.Change, declared.reply.Reply.Reply, declared.rows.RoomRow.RoomRow}
use Rattle.hotel_model.specs.{Rows.Rows}
use Rattle.hotel_model.specs.Refinement.Lookups.{room_at, code_at, code_place, card_at, note_at}
use Rattle.hotel_model.specs.{Refinement.Change.made, Refinement.Change.codes_of, Refinement.OnRows.home_on}
use Rattle.hotel_model.specs.{Outcome.Outcome, Run.is_failed}

-- the rows after what happened, where something did
abbrev pub made_by : Option Change → Rows → Rows
made_by None rows = rows
made_by (Some change) rows = made change rows

-- a failed step changed nothing, and examined at most the outcome's words; any other went as the outcome says
abbrev pub GoesIf : Bool → Outcome Change → Rows → Stream → Reply → Rows → Stream → Type 0
GoesIf true o rows source reply later rest = (later ≡ rows) × MovedAtMost o.examined source rest
GoesIf false o rows source reply later rest =
    (reply ≡ o.reply) × (later ≡ made_by o.happens rows) × (rest ≡ past o.examined source)

abbrev pub Goes : Outcome Change → Rows → Stream → Reply → Rows → Stream → Type 0
Goes o rows source reply later rest = GoesIf (is_failed reply) o rows source reply later rest

-- Each room's current and held codes are there, its codes are fewer than a count of 32 bits holds, and each of its
-- notes is there; the room of a party in house has two codes; the new code of each card is there.
pub record AreWhole (rows : Rows) : Type 0 where
  pub current : (room : ℕ) (row : RoomRow) → room_at rows room ≡ Some row → IsSome (code_at rows room (row.codes - 1))
  pub held : (room : ℕ) (row : RoomRow) → room_at rows room ≡ Some row → IsSome (code_at rows room row.lock_place)
  pub few : (room : ℕ) (row : RoomRow) → room_at rows room ≡ Some row → row.codes < 2 ^ 32 - 1
  pub noted : (room count : ℕ) (row : RoomRow) → room_at rows room ≡ Some row → 1 ≤ count
      → count ≤ row.notes - row.before → IsSome (note_at rows room row.fit count)
  pub homes : (party room : ℕ) → home_on rows party ≡ Some room → IsSome (room_at rows room)
      × IsSome (code_at rows room (codes_of rows room - 2))
  pub cards : (number : ℕ) (card : Card) → card_at rows number ≡ Some card → IsSome (code_place rows card.link.new_code)
