-- A note is found by its room, its fit and its count, and its standing is read off what is found.
use Rattle.std.proofs.Common.{ℕ, ◌≡◌, ◌≤◌, ◌+◌, ◌-◌, Bool, true, false, Option, Some, None, List, [], ◌∷◌, length}
use Rattle.std.proofs.Common.{filter, drop, refl, ap, sym, ◌∙◌, ◌==◌, if◌then◌else◌}
use Rattle.hotel_model.proofs.Names.{Note, Standing, Copy, Conflicting, OfOldFit, Next, After, History, notes_of}
use Rattle.hotel_model.proofs.Names.{present_fit, same_note, standing, standing_among, rows_of, note_at, is_room}
use Rattle.hotel_model.proofs.Names.{Reached}
use Rattle.hotel_model.proofs.{OfTables.AtRoom.first_in, OfTables.NotesListed.notes_are_listed}
use Rattle.hotel_model.proofs.{OfTables.RoomNumbers.room_there, Starts.StartNotesOfFits.note_of_fit_found}
use Rattle.hotel_model.proofs.{SoundRows.AllSound.rows_sound}

-- The note of a count that is 1 or more is the one of that place among the notes of its fit.
pub note_found : (h : History) → Reached h → (room fit count : ℕ) → is_room h room ≡ true → 1 ≤ count
    → note_at (rows_of h) room fit count ≡ first_in (drop (count - 1) (notes_of h room fit))
note_found h ok room fit count there n =
    let row = room_there h room there in
    note_of_fit_found (rows_of h) (rows_sound h ok) room _ row.2 fit count n
    ∙ ap (λ ns. first_in (drop (count - 1) (filter (λ (note : Note). note.fit == fit) ns))) (notes_are_listed h ok room)

-- how a note stands, by the one of its fit and count
abbrev pub standing_on : Bool → Option Note → ℕ → Note → Standing
standing_on present (Some kept) taken note = if same_note kept note then Copy else Conflicting
standing_on false None taken note = OfOldFit
standing_on true None taken note = if note.count == taken + 1 then Next else After (taken + 1)

among_by : (present : Bool) (taken : ℕ) (note : Note) (kept : List Note)
    → standing_among present taken note kept ≡ standing_on present (first_in kept) taken note
among_by true taken note [] = refl
among_by false taken note [] = refl
among_by true taken note (k ∷ ks) = refl
among_by false taken note (k ∷ ks) = refl

-- A note's standing is read off the note of its fit and count and the number of notes taken of its fit.
pub standing_by_lookup : (h : History) (note : Note) → Reached h → is_room h note.room ≡ true → 1 ≤ note.count
    → standing h note ≡ standing_on (note.fit == present_fit h note.room) (note_at (rows_of h) note.room note.fit
    note.count) (length (notes_of h note.room note.fit)) note
standing_by_lookup h note ok there n =
    among_by (note.fit == present_fit h note.room) (length (notes_of h note.room note.fit)) note
    (drop (note.count - 1) (notes_of h note.room note.fit))
    ∙ ap (λ o. standing_on (note.fit == present_fit h note.room) o (length (notes_of h note.room note.fit)) note)
    (sym (note_found h ok note.room note.fit note.count there n))
