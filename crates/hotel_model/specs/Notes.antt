-- The notes that were taken.
use Rattle.std.specs.Prelude.{ℕ, Bool, false, List, Option, Some, None, ◌+◌, ◌==◌, ◌&&◌, length, filter}
use Rattle.std.specs.BTreeMap.{insert_entry}
use Rattle.keycard_rules.specs.declared.note.Act.{Act}
use Rattle.keycard_rules.specs.declared.note.Act.TheVariants as act
use Rattle.keycard_rules.specs.Note.{Note}
use Rattle.hotel_model.specs.Words.{when, and_last, pair_cmp}
use Rattle.hotel_model.specs.Rows.{NoteKey, notes_at}
use Rattle.hotel_model.specs.Event.{note_of}
use Rattle.hotel_model.specs.History.{History, start, ◌▷◌}
use Rattle.hotel_model.specs.Cards.{same_link}

-- a room's notes, and the event's one where it is of that room
abbrev pub with_note : ℕ → Option Note → List Note → List Note
with_note r (Some note) taken = when (note.room == r) (and_last note) taken
with_note r None taken = taken

-- The notes of a room that were taken, in order.
abbrev pub notes : History → ℕ → List Note
notes (start t) r = notes_at t.notes r
notes (h ▷ event) r = with_note r (note_of event) (notes h r)

-- The notes of one fit of a room, in order.
abbrev pub notes_of : History → ℕ → ℕ → List Note
notes_of h r fit = filter (λ note. note.fit == fit) (notes h r)

-- all notes by room and number, and the event's one under the number after those that its room has
abbrev pub and_note : History → Option Note → List (NoteKey × Note) → List (NoteKey × Note)
and_note h (Some note) taken = insert_entry pair_cmp taken (note.room, length (notes h note.room) + 1) note
and_note h None taken = taken

-- All notes that were taken, by room and number: those of a room are numbered over all its fits.
abbrev pub all_notes : History → List (NoteKey × Note)
all_notes (start t) = t.notes
all_notes (h ▷ event) = and_note h (note_of event) (all_notes h)

-- Two notes say the same act, with equal numbers.
abbrev pub same_act : Act → Act → Bool
same_act (act.Entered n a) (act.Entered m b) = (n == m) && same_link a b
same_act (act.Left n a) (act.Left m b) = (n == m) && same_link a b
same_act (act.Recoded a b) (act.Recoded c d) = (a == c) && (b == d)
same_act _ _ = false

-- All fields of two notes are equal.
abbrev pub same_note : Note → Note → Bool
same_note a b = (a.room == b.room) && (a.fit == b.fit) && (a.count == b.count) && same_act a.act b.act
    && (a.day == b.day) && (a.second == b.second)
