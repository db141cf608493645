-- The file of a lock: how it stands, and its notes.
use Rattle.std.specs.Prelude.{ℕ, ◌≡◌, ◌<◌, ◌≤◌, List, [], ◌∷◌, ◌++◌, All, Option, Some, codes, is_some, length}
use Rattle.std.specs.Prelude.{slice_range, unwrap_or}
use Rattle.std.specs.List.{concat}
use Rattle.keycard_rules.specs.Numerals.{code_text, fixed_text, number_up_to, read_code}
use Rattle.keycard_rules.specs.Numbers.{IsNumberUpTo}
use Rattle.keycard_rules.specs.declared.code.TheConstants.{CODES}
use Rattle.keycard_rules.specs.declared.numbers.TheConstants.{LAST_FIT, LAST_ROOM}
use Rattle.hotel_nights.specs.Days.{◌>>=◌}
use Rattle.hotel_lock.specs.{NoteLine.notes_text, ReadBack.IsNote}
use Rattle.hotel_lock.specs.declared.audit_file.TheConstants.{AUDIT_BYTES}
use Rattle.hotel_lock.specs.Logged.{IsLogged, Logged, logged_after}
use Rattle.hotel_door.specs.Doings.{answer_at, done_at}
use Rattle.hotel_door.specs.declared.acts.Doing.{Doing}
use Rattle.hotel_door.specs.declared.lock_file.TheConstants.{FILE_BYTES}

-- The first line: the room, the lock's number, the code that it was first set to, the one that it holds, and how many
-- notes it made. (Byte 10 is a line feed.)
abbrev pub head_text : Logged → List ℕ
head_text l = concat (codes "room " ∷ fixed_text 10 4 l.lock.room ∷ codes " fit " ∷ fixed_text 10 2 l.lock.fit
    ∷ codes " first " ∷ code_text l.first ∷ codes " holds " ∷ code_text l.lock.held
    ∷ codes " notes " ∷ fixed_text 10 7 l.lock.made ∷ (10 ∷ []) ∷ [])

-- The file's text: the first line, and then the audit file of the notes.
abbrev pub lock_text : Logged → List ℕ
lock_text l = head_text l ++ notes_text l.notes

-- The room, the lock's number and its first code, as the first line has them.
abbrev pub head_in : List ℕ → Option (ℕ × ℕ × ℕ)
head_in head = do
  room ← number_up_to LAST_ROOM (slice_range head 5 9)
  fit ← number_up_to LAST_FIT (slice_range head 14 16)
  first ← read_code (slice_range head 23 35)
  Some (room, fit, first)

-- The lock has values that its type holds, its log is that of a lock, and is no longer than the desk imports at once.
pub record IsFileOf (l : Logged) : Type 0 where
  pub log : IsLogged l
  pub room : IsNumberUpTo LAST_ROOM l.lock.room
  pub fit : IsNumberUpTo LAST_FIT l.lock.fit
  pub first : l.first < CODES
  pub notes : All IsNote l.notes
  pub few : length (notes_text l.notes) ≤ AUDIT_BYTES

-- Something happens at the door of the lock, whose file has these bytes. There is a new text of the file exactly if the
-- lock's answer is yes. The file, which then has the new text and else stays as it is, is that of the lock behind what
-- it did.
pub record Happens (l : Logged) (doing : Doing) (at : ℕ × ℕ) (bytes : List ℕ) (text : Option (List ℕ)) : Type 0 where
  pub before : bytes ≡ lock_text l
  pub answer : is_some text ≡ answer_at l doing at
  pub after : unwrap_or text bytes ≡ lock_text (logged_after l (done_at l doing at))

-- The file of the lock behind it would have too many bytes.
abbrev pub IsFullAfter : Logged → Doing → ℕ × ℕ → Type 0
IsFullAfter l doing at = FILE_BYTES < length (lock_text (logged_after l (done_at l doing at)))
