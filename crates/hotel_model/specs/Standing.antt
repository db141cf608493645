-- How a further note stands to those that were taken.
use Rattle.std.specs.Prelude.{ℕ, Bool, true, false, List, [], ◌∷◌, ◌+◌, ◌-◌, ◌==◌, if◌then◌else◌, length, drop}
use Rattle.keycard_rules.specs.Note.{Note}
use Rattle.hotel_model.specs.History.{History}
use Rattle.hotel_model.specs.Notes.{notes_of, same_note}
use Rattle.hotel_model.specs.Refits.{present_fit}

-- How a note stands to those that its fit has.
pub data Standing : Type 0 where
  -- it is the one of its count
  Copy : Standing
  -- another one has its count
  Conflicting : Standing
  -- its fit is an earlier one, which has no note of its count
  OfOldFit : Standing
  -- it is the next one
  Next : Standing
  -- it comes after the next one, of this count
  After : (expected : ℕ) → Standing

-- how a note stands to the notes of its fit from its count on, where so many were taken, and the fit is the room's
-- present one or an earlier one
abbrev pub standing_among : Bool → ℕ → Note → List Note → Standing
standing_among is_present taken note (kept ∷ _) = if same_note kept note then Copy else Conflicting
standing_among false taken note [] = OfOldFit
standing_among true taken note [] = if note.count == taken + 1 then Next else After (taken + 1)

-- how a note stands to the notes of its fit
abbrev pub standing_to : Bool → Note → List Note → Standing
standing_to is_present note taken = standing_among is_present (length taken) note (drop (note.count - 1) taken)

-- A note whose count was taken under its fit is a copy where it equals the note of that count, else a conflict. Under
-- an earlier fit no other count can be taken.
-- Under the room's present fit the next count is next, and any later one leaves a gap.
abbrev pub standing : History → Note → Standing
standing h note = standing_to (note.fit == present_fit h note.room) note (notes_of h note.room note.fit)
