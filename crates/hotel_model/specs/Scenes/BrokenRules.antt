-- Rows of which one rule fails: sound rows with one thing changed, and the rules that fail of them. Here those of days,
-- kinds, rooms and stays. Two fail with others: a room has more codes than its cards and fits allow only where its
-- places fail; so many notes aren't kept here. That parties or cards are more than 9,999,999 isn't computed.
use Rattle.std.specs.Prelude.{ℕ, true, false, List, [], ◌∷◌, ◌++◌, ◌+◌, Some, None, codes, replicate}
use Rattle.hotel_nights.specs.declared.stay.StayState.TheVariants as state
use Rattle.hotel_model.specs.Rows.{Rows}
use Rattle.hotel_model.specs.Scenes.Words.{may, DBL, SGL, TWN, TPL}
use Rattle.hotel_model.specs.Scenes.RuleNames.{Broken, AreBroken}
use Rattle.hotel_model.specs.Scenes.BrokenRows.{room, room_row, code, fit, first_notes, third_note}
use Rattle.hotel_model.specs.Scenes.BrokenRows.{note_of_102, other_notes, notes_of_105, rows, swapped, moved}
use Rattle.hotel_model.specs.Scenes.BrokenRows.{with_room, with_stay, with_code, with_insides}

abbrev pub with_guest : List ℕ → Rows
with_guest text = with_stay 5 (λ stay. record stay { guest = text })

abbrev pub of_days_and_kinds : List Broken
of_days_and_kinds =
    (codes "keys" ∷ [], record rows { kinds = SGL ∷ DBL ∷ TWN ∷ [] })
    ∷ (codes "keys" ∷ [], record rows { kinds = DBL ∷ DBL ∷ SGL ∷ TWN ∷ [] })
    ∷ (codes "keys" ∷ [], record rows { rooms = swapped rows.rooms })
    ∷ (codes "keys" ∷ [], record rows { codes = swapped rows.codes })
    ∷ (codes "keys" ∷ codes "stay_number" ∷ [], record rows { stays = swapped rows.stays })
    ∷ (codes "keys" ∷ codes "card_number" ∷ [], record rows { cards = swapped rows.cards })
    ∷ (codes "keys" ∷ [], with_insides ((101, 4) ∷ (101, 4) ∷ []))
    ∷ (codes "keys" ∷ [], record rows { notes = note_of_102 ∷ first_notes ++ third_note ∷ other_notes ++ notes_of_105 })
    ∷ (codes "keys" ∷ [], record rows { fits = swapped rows.fits })
    ∷ (codes "meta_day" ∷ [], record rows { day = Some 36525 })
    ∷ (codes "meta_kinds" ∷ [], record rows { day = None })
    ∷ (codes "kind_reads" ∷ [], record rows { kinds = [] ∷ DBL ∷ SGL ∷ TWN ∷ [] })
    ∷ (codes "kind_reads" ∷ [], record rows { kinds = DBL ∷ SGL ∷ TWN ∷ codes "dbl" ∷ [] })
    ∷ (codes "kind_reads" ∷ [], record rows { kinds = codes "ABCDEFGHI" ∷ DBL ∷ SGL ∷ TWN ∷ [] })
    ∷ []

-- so many notes of room 103
abbrev pub with_notes_of_103 : ℕ → Rows
with_notes_of_103 n = with_room 103 (λ row. record row { notes = n })

-- a room of this number, with a code and a fit of its own, before and after the others
abbrev pub with_room_0 : Rows
with_room_0 = record (with_code (code 0xff 0 0)) {
  rooms = room 0 DBL 0 1 false None 0 ∷ rows.rooms;
  fits = fit 0 1 0 0 ∷ rows.fits;
}

abbrev pub with_room_10000 : Rows
with_room_10000 = record (with_code (code 0xff 10000 0)) {
  rooms = rows.rooms ++ room 10000 DBL 0 1 false None 0 ∷ [];
  fits = rows.fits ++ fit 10000 1 0 0 ∷ [];
}

abbrev pub of_rooms : List Broken
of_rooms =
    (codes "room_number" ∷ [], with_room_0)
    ∷ (codes "room_number" ∷ [], with_room_10000)
    ∷ (codes "room_number" ∷ [], with_room 103 (λ _. room_row 101 DBL 2 3 true (Some 1) 3))
    ∷ (codes "room_lock_place" ∷ [], with_room 103 (λ row. record row { lock_place = 1 }))
    ∷ (codes "room_kind" ∷ [], with_room 202 (λ row. record row { kind = TPL }))
    ∷ (codes "room_codes" ∷ codes "code_places" ∷ [], with_room 103 (λ row. record row { codes = 99 }))
    ∷ (codes "room_notes" ∷ codes "note_counted" ∷ codes "fit_few" ∷ [], with_notes_of_103 989999902)
    ∷ (codes "room_party" ∷ [], with_room 103 (λ row. record row { party = Some 5 }))
    ∷ (codes "room_party" ∷ [], with_stay 1 (λ stay. record stay { kind = SGL }))
    ∷ (codes "room_secured" ∷ [], with_room 103 (λ row. record row { secured = true }))
    ∷ (codes "room_secured" ∷ [], with_room 201 (λ row. record row { secured = true }))
    ∷ (codes "room_secured" ∷ [], with_room 105 (λ row. record row { secured = true }))  -- the last code begins a fit
    ∷ []

-- the last stay has the number after the next one
abbrev pub with_party_11 : Rows
with_party_11 = record rows { stays = moved 10 11 (with_stay 10 (λ stay. record stay { party = 11 })).stays }

abbrev pub of_stays : List Broken
of_stays =
    (codes "stay_number" ∷ [], with_stay 5 (λ stay. record stay { party = 6 }))
    ∷ (codes "stay_number" ∷ [], with_party_11)
    ∷ (codes "stay_guest" ∷ [], with_guest [])
    ∷ (codes "stay_guest" ∷ [], with_guest (replicate 61 65))
    ∷ (codes "stay_guest" ∷ [], with_guest (codes " Bo"))
    ∷ (codes "stay_guest" ∷ [], with_guest (codes "Bo "))
    ∷ (codes "stay_guest" ∷ [], with_guest (66 ∷ 127 ∷ 66 ∷ []))
    ∷ (codes "stay_guest" ∷ [], with_guest (66 ∷ 255 ∷ 66 ∷ []))
    ∷ (codes "stay_kind" ∷ [], with_stay 4 (λ stay. record stay { kind = TPL }))
    ∷ (codes "stay_day" ∷ [], with_stay 4 (λ stay. record stay { depart = may 1 }))
    ∷ (codes "stay_day" ∷ [], with_stay 4 (λ stay. record stay { depart = may 1 + 91 }))
    ∷ (codes "stay_day" ∷ [], with_stay 4 (λ stay. record stay { arrive = 36524; depart = 36525 }))
    ∷ (codes "stay_room" ∷ [], with_stay 6 (λ stay. record stay { state = state.InHouse 202 }))
    ∷ (codes "stay_nights" ∷ [], with_stay 2 (λ stay. record stay { state = state.Booked }))
    ∷ []

abbrev pub TheScene : Type 0
TheScene = AreBroken of_days_and_kinds × AreBroken of_rooms × AreBroken of_stays
