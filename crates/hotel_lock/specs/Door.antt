-- The lock of one door, which stands alone: what it keeps, and what it does when a card is shown, a card goes out, and
-- staff set it. It knows nothing of the desk, of other locks, and of which cards were issued.
use Rattle.std.specs.Prelude.{ℕ, ◌+◌, ◌==◌, Option, Some, None, option_map, if◌then◌else◌}
use Rattle.keycard_rules.specs.declared.card.Link.{Link}
use Rattle.keycard_rules.specs.declared.note.Act.{Act}
use Rattle.keycard_rules.specs.declared.note.Act.TheVariants.{Entered, Left, Recoded}
use Rattle.keycard_rules.specs.Lock.{turn}
use Rattle.keycard_rules.specs.Note.{Note}

-- A lock: the room of its door, its number among the room's locks, the code that it holds, and how many notes it has
-- made.
pub record Lock : Type 0 where
  pub room : ℕ
  pub fit : ℕ
  pub held : ℕ
  pub made : ℕ

-- what an act of a lock leaves: the lock after it, and the note that it made
pub record Noted : Type 0 where
  pub lock : Lock
  pub note : Note

-- A new lock of a room, its locks' next number, holds its code and has made no note.
abbrev pub fitted : ℕ → ℕ → ℕ → Lock
fitted room fit code = record { room = room; fit = fit; held = code; made = 0 }

-- The next note of a lock: it bears the lock's room and number, the next count, and the day and the second of it.
abbrev pub next_note : Lock → Act → ℕ × ℕ → Note
next_note lock act at = record {
  room = lock.room;
  fit = lock.fit;
  count = lock.made + 1;
  act = act;
  day = at.0;
  second = at.1;
}

-- the lock does this act: it then holds a code, and makes a note
abbrev pub acts : Lock → Act → ℕ → ℕ × ℕ → Noted
acts lock act code at =
    record { lock = record lock { held = code; made = lock.made + 1 }; note = next_note lock act at }

-- A card is shown from outside: by the rule of the two codes the lock stays shut, or it opens, holds the card's new
-- code and notes the entry.
abbrev pub enters : Lock → ℕ → Link → ℕ × ℕ → Option Noted
enters lock number link at = option_map (λ code. acts lock (Entered number link) code at) (turn lock.held link)

-- A card goes out: the lock holds what it held, and notes the exit.
abbrev pub leaves : Lock → ℕ → Link → ℕ × ℕ → Noted
leaves lock number link at = acts lock (Left number link) lock.held at

-- Staff set the lock to a code: it holds this one, and notes the recoding. If it held this one already, nothing
-- happens.
abbrev pub is_set : Lock → ℕ → ℕ × ℕ → Option Noted
is_set lock code at = if lock.held == code then None else Some (acts lock (Recoded lock.held code) code at)
