-- A lock with all its notes.
use Rattle.std.specs.Prelude.{ℕ, ◌≡◌, List, [], ◌∷◌, ◌++◌, Option, Some, None}
use Rattle.keycard_rules.specs.declared.note.Act.{Act}
use Rattle.keycard_rules.specs.declared.note.Act.TheVariants.{Entered, Left, Recoded}
use Rattle.keycard_rules.specs.Note.{Note}
use Rattle.hotel_nights.specs.Moments.{moment_of}
use Rattle.hotel_lock.specs.Door.{Lock, Noted, fitted}
use Rattle.hotel_lock.specs.Log.{goes_out, sets, shows}

-- What the lock does where a card is shown, a card goes out, or staff set it, behind these notes.
abbrev pub does : Lock → List Note → Act → ℕ × ℕ → Option Noted
does lock notes (Entered number link) at = shows lock number link at
does lock notes (Left number link) at = goes_out lock notes number link at
does lock notes (Recoded from to) at = sets lock to at

-- The lock makes the note behind these notes, and then stands so.
abbrev pub Makes : Lock → List Note → Note → Lock → Type 0
Makes lock notes note after =
    does lock notes note.act (moment_of note) ≡ Some (record { lock = after; note = note })

-- Behind these notes the lock makes those, one after the other, and then stands so.
abbrev pub MakesAll : Lock → List Note → List Note → Lock → Type 0
MakesAll lock notes [] end = end ≡ lock
MakesAll lock notes (note ∷ later) end =
    (after : Lock) × Makes lock notes note after × MakesAll after (notes ++ (note ∷ [])) later end

-- A lock with its log: the code that it was first set to, how it stands, and all its notes.
pub record Logged : Type 0 where
  pub first : ℕ
  pub lock : Lock
  pub notes : List Note

-- A new lock of a room, set to a code, made these notes and no others, and then stands so.
abbrev pub IsLogOf : ℕ → ℕ → ℕ → List Note → Lock → Type 0
IsLogOf room fit first notes lock = MakesAll (fitted room fit first) [] notes lock

-- The log is that of a new lock of the same room and number.
abbrev pub IsLogged : Logged → Type 0
IsLogged l = IsLogOf l.lock.room l.lock.fit l.first l.notes l.lock

-- the lock with its log behind what it did, if it did anything
abbrev pub logged_after : Logged → Option Noted → Logged
logged_after l None = l
logged_after l (Some noted) = record l { lock = noted.lock; notes = l.notes ++ (noted.note ∷ []) }
