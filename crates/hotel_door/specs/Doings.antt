-- What happens at the door, what the lock does then, and what it answers.
use Rattle.std.specs.Prelude.{ℕ, Bool, true, false, List, Option, codes, is_some}
use Rattle.hotel_lock.specs.Door.{Noted}
use Rattle.hotel_lock.specs.Log.{goes_out, holds_after, sets, shows}
use Rattle.hotel_lock.specs.Logged.{Logged}
use Rattle.hotel_door.specs.declared.acts.Doing.{Doing}
use Rattle.hotel_door.specs.declared.acts.Doing.TheVariants as doing

-- What the lock does.
abbrev pub done_at : Logged → Doing → ℕ × ℕ → Option Noted
done_at l (doing.Show number link) at = shows l.lock number link at
done_at l (doing.Leave number link) at = goes_out l.lock l.notes number link at
done_at l (doing.Set code) at = sets l.lock code at

-- What the lock answers: whether the door opens, whether it notes that the card goes out, or whether it then holds the
-- code, also where it held it before and made no note.
abbrev pub answer_at : Logged → Doing → ℕ × ℕ → Bool
answer_at l (doing.Show number link) at = is_some (done_at l (doing.Show number link) at)
answer_at l (doing.Leave number link) at = is_some (done_at l (doing.Leave number link) at)
answer_at l (doing.Set code) at = holds_after l.lock code (done_at l (doing.Set code) at)

-- What the program prints for it.
abbrev pub answer_text : Doing → Bool → List ℕ
answer_text (doing.Show number link) true = codes "opens\n"
answer_text (doing.Show number link) false = codes "stays shut\n"
answer_text (doing.Leave number link) true = codes "left\n"
answer_text (doing.Leave number link) false = codes "not inside\n"
answer_text (doing.Set code) true = codes "set\n"
answer_text (doing.Set code) false = codes "not set\n"
