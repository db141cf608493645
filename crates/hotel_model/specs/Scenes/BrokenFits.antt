-- Rows of which one rule fails: of fits, and of the notes' fits. Three fail with another one: notes before a first fit
-- leave the first note without a number, and so many notes as a fit can't have aren't kept here.
use Rattle.std.specs.Prelude.{ℕ, zero, suc, false, List, [], ◌∷◌, ◌++◌, ◌+◌, ◌-◌, None, codes, filter, nat_lt}
use Rattle.keycard_rules.specs.Note.{Note}
use Rattle.keycard_rules.specs.declared.note.Act.TheVariants as act
use Rattle.hotel_model.specs.declared.rows.RoomRow.{RoomRow}
use Rattle.hotel_model.specs.declared.rows.CodeRow.{CodeRow}
use Rattle.hotel_model.specs.declared.rows.FitRow.{FitRow}
use Rattle.hotel_model.specs.Rows.{Rows, NoteKey, FitKey}
use Rattle.hotel_model.specs.Scenes.Words.{TWN}
use Rattle.hotel_model.specs.Scenes.RuleNames.{Broken, AreBroken, IsWhole}
use Rattle.hotel_model.specs.Scenes.BrokenRows.{room_row, code, note_of, fit, notes_of_105, fits_before_105}
use Rattle.hotel_model.specs.Scenes.BrokenRows.{fits_of_105, fits_after_105, rows, with_room, with_105}
use Rattle.hotel_model.specs.Scenes.BrokenRules.{with_notes_of_103}

-- the row as it is, at another fit, and after other notes
abbrev pub same : RoomRow → RoomRow
same row = row

abbrev pub at_fit : ℕ → RoomRow → RoomRow
at_fit number row = record row { fit = number }

abbrev pub after_notes : ℕ → RoomRow → RoomRow
after_notes number row = record row { before = number }

-- the rows with other fits of room 103
abbrev pub with_103 : List (FitKey × FitRow) → (RoomRow → RoomRow) → Rows
with_103 its_fits f = record (with_room 103 f) {
  fits = fit 101 1 0 0 ∷ fit 102 1 0 0 ∷ its_fits ++ fit 104 1 0 0 ∷ fit 104 2 2 2 ∷ fits_of_105 ++ fits_after_105;
}

-- the two notes of room 105, each with a fit and a count
abbrev pub two_notes : ℕ → ℕ → ℕ → ℕ → List (NoteKey × Note)
two_notes fit1 count1 fit2 count2 =
    note_of 105 1 fit1 count1 (act.Recoded 0x50 0x51)
    ∷ note_of 105 2 fit2 count2 (act.Recoded 0x51 0x52)
    ∷ []

-- n codes and n fits of room 106, each fit with one code
abbrev pub codes_of_106 : ℕ → ℕ → List (ℕ × CodeRow)
codes_of_106 place zero = []
codes_of_106 place (suc n) = code (4096 + place) 106 place ∷ codes_of_106 (place + 1) n

abbrev pub fits_of_106 : ℕ → ℕ → List (FitKey × FitRow)
fits_of_106 place zero = []
fits_of_106 place (suc n) = fit 106 (place + 1) place 0 ∷ fits_of_106 (place + 1) n

-- room 106, each of whose codes begins a fit
abbrev pub room_106 : ℕ → ℕ × RoomRow
room_106 n = (106, record (room_row 106 TWN (n - 1) n false None 0) { fit = n })

-- the rows, and room 106 with n fits
abbrev pub with_106 : ℕ → Rows
with_106 n = record rows {
  rooms = filter (λ (e : ℕ × RoomRow). nat_lt e.0 106) rows.rooms ++ room_106 n
      ∷ filter (λ (e : ℕ × RoomRow). nat_lt 106 e.0) rows.rooms;
  codes = rows.codes ++ codes_of_106 0 n;
  fits = fits_before_105 ++ fits_of_105 ++ fits_of_106 0 n ++ fits_after_105;
}

-- the one fit of room 103 has another number, or another room
abbrev pub with_other_number : Rows
with_other_number = with_103 (((103, 1), (fit 103 2 0 0).1) ∷ []) (at_fit 2)

abbrev pub with_other_room : Rows
with_other_room = with_103 (((103, 1), (fit 101 1 0 0).1) ∷ []) same

-- room 105 with a second and a third fit at other places and after other notes
abbrev pub fits_with : (place2 notes2 place3 notes3 : ℕ) → List (FitKey × FitRow)
fits_with place2 notes2 place3 notes3 = fit 105 1 0 0 ∷ fit 105 2 place2 notes2 ∷ fit 105 3 place3 notes3 ∷ []

-- four fits of room 105, two of them at one place
abbrev pub with_four_fits : Rows
with_four_fits =
    let its_fits = fit 105 1 0 0 ∷ fit 105 2 1 1 ∷ fit 105 3 1 1 ∷ fit 105 4 2 1 ∷ [] in
    with_105 its_fits (at_fit 4) (two_notes 1 1 4 1)

-- the first fit of room 105 comes after a note
abbrev pub with_first_after_note : Rows
with_first_after_note = with_105 (fit 105 1 0 1 ∷ fit 105 2 1 1 ∷ fit 105 3 2 1 ∷ []) same (two_notes 1 1 3 1)

-- the last fit of room 105 comes after so many notes
abbrev pub with_last_after : ℕ → Rows
with_last_after n = with_105 (fits_with 1 1 2 n) (after_notes n) (two_notes 1 1 2 1)

abbrev pub of_fits : List Broken
of_fits =
    (codes "fit_room" ∷ [], record rows { fits = rows.fits ++ fit 999 1 0 0 ∷ [] })
    ∷ (codes "fit_number" ∷ [], with_103 [] same)
    ∷ (codes "fit_number" ∷ [], with_103 (fit 103 2 0 0 ∷ []) (at_fit 2))
    ∷ (codes "fit_number" ∷ [], with_other_number)
    ∷ (codes "fit_number" ∷ [], with_other_room)
    ∷ (codes "fit_number" ∷ [], with_106 100)
    ∷ (codes "fit_first" ∷ [], with_105 (fit 105 1 1 0 ∷ fit 105 2 2 1 ∷ []) (at_fit 2) (two_notes 1 1 2 1))
    ∷ (codes "note_of_fit" ∷ codes "fit_first" ∷ [], with_first_after_note)
    ∷ (codes "fit_places" ∷ [], with_105 (fits_with 2 1 1 1) same notes_of_105)
    ∷ (codes "fit_places" ∷ [], with_four_fits)
    ∷ (codes "fit_notes" ∷ [], with_105 (fits_with 1 2 2 1) same notes_of_105)
    ∷ (codes "fit_held" ∷ [], with_room 105 (λ row. record row { lock_place = 1 }))
    ∷ (codes "fit_noted" ∷ [], with_last_after 3)
    ∷ (codes "fit_noted" ∷ codes "fit_few" ∷ [], with_last_after 10000001)
    ∷ (codes "note_counted" ∷ codes "fit_few" ∷ [], with_notes_of_103 10000000)
    ∷ (codes "fit_of_room" ∷ [], with_room 105 (at_fit 2))
    ∷ (codes "fit_of_room" ∷ [], with_room 105 (after_notes 0))
    ∷ []

abbrev pub of_notes : List Broken
of_notes =
    (codes "note_of_fit" ∷ [], with_105 fits_of_105 same (two_notes 1 2 3 1))
    ∷ (codes "note_of_fit" ∷ [], with_105 fits_of_105 same (two_notes 2 1 3 1))
    ∷ (codes "note_of_fit" ∷ [], with_105 fits_of_105 same (two_notes 2 0 3 1))
    ∷ (codes "note_of_fit" ∷ [], with_105 fits_of_105 same (two_notes 1 1 2 1))
    ∷ (codes "note_of_fit" ∷ [], with_105 fits_of_105 same (two_notes 1 1 1 2))
    ∷ (codes "note_of_fit" ∷ [], with_105 fits_of_105 same (two_notes 1 1 4 1))
    ∷ []

-- Ninety-nine fits are sound, one more isn't.
abbrev pub TheScene : Type 0
TheScene = AreBroken of_fits × AreBroken of_notes × IsWhole (with_106 99)
