-- What a lock notes: which lock it is, a count, what happened, and when.
use Rattle.std.specs.Prelude.{ℕ, ◌≤◌}
use Rattle.keycard_rules.specs.declared.{note.Act.Act, note.TheConstants.LAST_DAY, note.TheConstants.LAST_SECOND}

-- A note: the room, the number of the room's lock, the lock's count, the act, and the day and the second of it.
pub record Note : Type 0 where
  pub room : ℕ
  pub fit : ℕ
  pub count : ℕ
  pub act : Act
  pub day : ℕ
  pub second : ℕ

-- the day is one of the calendar's, and the second one of a day's
abbrev pub IsTimed : ℕ → ℕ → Type 0
IsTimed day second = (day ≤ LAST_DAY) × (second ≤ LAST_SECOND)
