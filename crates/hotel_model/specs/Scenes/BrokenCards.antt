-- Rows of which one rule fails: of codes, cards, insides and notes. Cards of a newest link with another party than the
-- room's have two parties; a note at another number than its own leaves a hole.
use Rattle.std.specs.Prelude.{ℕ, false, not, List, [], ◌∷◌, ◌++◌, ◌==◌, ◌^◌, Some, codes, filter}
use Rattle.keycard_rules.specs.Note.{Note}
use Rattle.keycard_rules.specs.declared.note.Act.TheVariants as act
use Rattle.hotel_nights.specs.declared.stay.Stay.{Stay}
use Rattle.hotel_nights.specs.declared.stay.StayState.TheVariants as state
use Rattle.hotel_model.specs.declared.rows.CodeRow.{CodeRow}
use Rattle.hotel_model.specs.Rows.{Rows, NoteKey}
use Rattle.hotel_model.specs.Scenes.Words.{a0, a1, a2, b0, b1, d0, TWN, link}
use Rattle.hotel_model.specs.Scenes.RuleNames.{Broken, AreBroken}
use Rattle.hotel_model.specs.Scenes.BrokenRows.{code, note, fit, first_notes, third_note, note_of_102, other_notes}
use Rattle.hotel_model.specs.Scenes.BrokenRows.{notes_of_105, fits_of_103_and_104, fits_of_105, fits_after_105, rows}
use Rattle.hotel_model.specs.Scenes.BrokenRows.{changed, moved, with_room, with_card, with_code, with_insides}

-- the last notes of rooms 101 and 102, in the place of theirs
abbrev pub with_notes : NoteKey × Note → NoteKey × Note → Rows
with_notes third other = record rows { notes = first_notes ++ third ∷ other ∷ other_notes ++ notes_of_105 }

abbrev pub with_third : (Note → Note) → Rows
with_third f = with_notes (third_note.0, f third_note.1) note_of_102

-- room 105 is the party's, whose last card has another link
abbrev pub with_party_of_105 : Rows
with_party_of_105 =
    let at_home = λ (stay : Stay). record stay { kind = TWN; state = state.InHouse 105 } in
    record (with_room 105 (λ row. record row { party = Some 6 })) { stays = changed 6 at_home rows.stays }

-- room 102 has a second fit, which begins with the code of a card
abbrev pub with_fit_of_102 : Rows
with_fit_of_102 = record (with_room 102 (λ row. record row { fit = 2; before = 1 })) {
  fits = fit 101 1 0 0 ∷ fit 102 1 0 0 ∷ fit 102 2 1 1 ∷ fits_of_103_and_104 ++ fits_of_105 ++ fits_after_105;
}

-- room 103 has another code
abbrev pub with_code_of_103 : Rows
with_code_of_103 =
    record (with_code (code 0xff 103 1)) { rooms = (with_room 103 (λ row. record row { codes = 2 })).rooms }

-- a code out of range in the place of d0
abbrev pub with_great_code : Rows
with_great_code =
    let others = filter (λ (e : ℕ × CodeRow). not (e.0 == d0)) rows.codes in
    record rows { codes = others ++ code (2 ^ 48) 103 0 ∷ [] }

-- the last card has the number after the next one
abbrev pub with_card_number_11 : Rows
with_card_number_11 = record rows { cards = moved 10 11 (with_card 10 (λ card. record card { number = 11 })).cards }

abbrev pub of_codes_and_cards : List Broken
of_codes_and_cards =
    (codes "code_range" ∷ [], with_great_code)
    ∷ (codes "code_room" ∷ [], with_code (code 0xff 999 0))
    ∷ (codes "code_places" ∷ [], with_code (code 0xff 103 0))
    ∷ (codes "code_places" ∷ [], with_room 103 (λ row. record row { codes = 2 }))
    ∷ (codes "card_number" ∷ [], with_card 7 (λ card. record card { number = 8 }))
    ∷ (codes "card_number" ∷ [], with_card_number_11)
    ∷ (codes "card_party" ∷ [], with_card 3 (λ card. record card { party = 11 }))
    ∷ (codes "card_link" ∷ codes "card_fits" ∷ [], with_card 2 (λ card. record card { link = link a1 a0 }))
    ∷ (codes "card_link" ∷ [], with_card 2 (λ card. record card { link = link a0 a2 }))
    ∷ (codes "card_link" ∷ [], with_card 2 (λ card. record card { link = link a0 b1 }))
    ∷ (codes "card_link" ∷ [], with_card 2 (λ card. record card { link = link a0 0xff }))
    ∷ (codes "card_one_party" ∷ [], with_card 2 (λ card. record card { party = 5 }))
    ∷ (codes "card_neighbours" ∷ [], with_code_of_103)
    ∷ (codes "card_fits" ∷ [], with_fit_of_102)
    ∷ (codes "card_one_party" ∷ codes "card_newest" ∷ [], with_card 5 (λ card. record card { party = 5 }))
    ∷ (codes "card_last" ∷ [], with_party_of_105)
    ∷ (codes "card_last" ∷ [], with_card 5 (λ card. record card { link = link b0 b1 }))
    ∷ []

-- a card of room 104's first fit is inside it
abbrev pub with_earlier_card_inside : Rows
with_earlier_card_inside =
    record (with_room 104 (λ row. record row { secured = false })) { inside = (101, 4) ∷ (104, 8) ∷ [] }

-- a note of a room that isn't there
abbrev pub with_note_of_no_room : Rows
with_note_of_no_room = record rows { notes = rows.notes ++ note 999 1 (act.Entered 4 (link a1 a2)) ∷ [] }

abbrev pub of_insides_and_notes : List Broken
of_insides_and_notes =
    (codes "inside_fits" ∷ [], with_insides ((101, 99) ∷ []))
    ∷ (codes "inside_fits" ∷ [], with_insides ((999, 4) ∷ []))
    ∷ (codes "inside_fits" ∷ [], with_insides ((102, 4) ∷ []))
    ∷ (codes "inside_fits" ∷ [], with_insides ((201, 6) ∷ []))
    ∷ (codes "inside_fits" ∷ [], with_insides ((101, 1) ∷ []))
    ∷ (codes "inside_fits" ∷ [], with_earlier_card_inside)
    ∷ (codes "note_counted" ∷ [], with_room 103 (λ row. record row { notes = 1 }))
    ∷ (codes "note_counted" ∷ [], with_notes (note 101 4 (act.Entered 4 (link a1 a2))) note_of_102)
    ∷ (codes "note_counted" ∷ codes "note_of_fit" ∷ [], with_notes ((101, 4), third_note.1) note_of_102)
    ∷ (codes "note_fits" ∷ [], with_third (λ note. record note { room = 102 }))
    ∷ (codes "note_fits" ∷ codes "note_of_fit" ∷ [], with_note_of_no_room)
    ∷ (codes "note_fits" ∷ [], with_third (λ note. record note { act = act.Entered 99 (link a1 a2) }))
    ∷ (codes "note_fits" ∷ [], with_third (λ note. record note { act = act.Entered 4 (link a0 a1) }))
    ∷ (codes "note_fits" ∷ [], with_third (λ note. record note { act = act.Left 3 (link b0 b1) }))
    ∷ (codes "note_fits" ∷ [], with_third (λ note. record note { day = 36525 }))
    ∷ (codes "note_fits" ∷ [], with_third (λ note. record note { second = 86400 }))
    ∷ (codes "note_fits" ∷ [], with_notes third_note (note 102 1 (act.Recoded b1 b0)))
    ∷ (codes "note_fits" ∷ [], with_notes third_note (note 102 1 (act.Recoded a0 a1)))
    ∷ (codes "note_of_fit" ∷ [], with_third (λ note. record note { fit = 2 }))
    ∷ (codes "note_of_fit" ∷ [], with_third (λ note. record note { fit = 0 }))
    ∷ []

abbrev pub TheScene : Type 0
TheScene = AreBroken of_codes_and_cards × AreBroken of_insides_and_notes
