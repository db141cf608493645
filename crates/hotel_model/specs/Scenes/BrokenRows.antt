-- Sound rows, to be broken: what stands in them, and changes of them.
use Rattle.std.specs.Prelude.{ℕ, Bool, true, false, List, [], ◌∷◌, ◌++◌, ◌==◌, Option, Some, None}
use Rattle.keycard_rules.specs.declared.card.Card.{Card}
use Rattle.keycard_rules.specs.Note.{Note}
use Rattle.keycard_rules.specs.declared.note.Act.{Act}
use Rattle.keycard_rules.specs.declared.note.Act.TheVariants as act
use Rattle.hotel_nights.specs.declared.stay.Stay.{Stay}
use Rattle.hotel_nights.specs.declared.stay.StayState.{StayState}
use Rattle.hotel_nights.specs.declared.stay.StayState.TheVariants as state
use Rattle.hotel_model.specs.declared.rows.RoomRow.{RoomRow}
use Rattle.hotel_model.specs.declared.rows.CodeRow.{CodeRow}
use Rattle.hotel_model.specs.declared.rows.FitRow.{FitRow}
use Rattle.hotel_model.specs.Words.{when}
use Rattle.hotel_model.specs.Rows.{Rows, InsideKey, NoteKey, FitKey}
use Rattle.hotel_model.specs.Scenes.Words.{may, M, a0, a1, a2, b0, b1, c0, c1, d0, DBL, SGL, TWN, guest, link}
use Rattle.hotel_model.specs.Scenes.Words.{note as noted}

-- ---- rows, each with its key

-- the row of a room of one fit, and the room with its number
abbrev pub room_row : ℕ → List ℕ → ℕ → ℕ → Bool → Option ℕ → ℕ → RoomRow
room_row number kind lock_place its_codes secured party notes = record {
  room = number;
  kind = kind;
  lock_place = lock_place;
  codes = its_codes;
  secured = secured;
  party = party;
  notes = notes;
  fit = 1;
  before = 0;
}

abbrev pub room : ℕ → List ℕ → ℕ → ℕ → Bool → Option ℕ → ℕ → ℕ × RoomRow
room number kind lock_place its_codes secured party notes =
    (number, room_row number kind lock_place its_codes secured party notes)

-- the same room at a later fit
abbrev pub refitted : ℕ → ℕ → ℕ × RoomRow → ℕ × RoomRow
refitted number notes e = (e.0, record e.1 { fit = number; before = notes })

abbrev pub code : ℕ → ℕ → ℕ → ℕ × CodeRow
code value its_room place = (value, record { room = its_room; place = place })

abbrev pub stay : ℕ → List ℕ → StayState → ℕ × Stay
stay party kind its_state =
    (party, record { party = party; guest = guest; kind = kind; arrive = may 1; depart = may 3; state = its_state })

abbrev pub card : ℕ → ℕ → ℕ → ℕ → ℕ × Card
card number party old new = (number, record { number = number; party = party; link = link old new })

-- a note of a fit, at its number among all notes of the room
abbrev pub note_of : ℕ → ℕ → ℕ → ℕ → Act → NoteKey × Note
note_of its_room number fit count its_act = ((its_room, number), noted its_room fit count its_act M)

-- a note of a room's first fit
abbrev pub note : ℕ → ℕ → Act → NoteKey × Note
note its_room count its_act = note_of its_room count 1 count its_act

abbrev pub fit : ℕ → ℕ → ℕ → ℕ → FitKey × FitRow
fit its_room number place notes =
    ((its_room, number), record { room = its_room; fit = number; place = place; before = notes })

-- ---- sound rows

-- two notes of room 101, its third one, and that of room 102
abbrev pub first_notes : List (NoteKey × Note)
first_notes = note 101 1 (act.Entered 1 (link a0 a1)) ∷ note 101 2 (act.Left 1 (link a0 a1)) ∷ []

abbrev pub third_note : NoteKey × Note
third_note = note 101 3 (act.Entered 4 (link a1 a2))

abbrev pub note_of_102 : NoteKey × Note
note_of_102 = note 102 1 (act.Recoded b0 b1)

abbrev pub notes_of_105 : List (NoteKey × Note)
notes_of_105 = note 105 1 (act.Recoded 0x50 0x51) ∷ note_of 105 2 3 1 (act.Recoded 0x51 0x52) ∷ []

abbrev pub other_notes : List (NoteKey × Note)
other_notes =
    note 104 1 (act.Entered 8 (link 0xf0 0xf1))
    ∷ note 104 2 (act.Left 8 (link 0xf0 0xf1))
    ∷ note_of 104 3 2 1 (act.Entered 9 (link 0xf2 0xf3))
    ∷ []

abbrev pub fits_of_103_and_104 : List (FitKey × FitRow)
fits_of_103_and_104 = fit 103 1 0 0 ∷ fit 104 1 0 0 ∷ fit 104 2 2 2 ∷ []

abbrev pub fits_before_105 : List (FitKey × FitRow)
fits_before_105 = fit 101 1 0 0 ∷ fit 102 1 0 0 ∷ fits_of_103_and_104

abbrev pub fits_of_105 : List (FitKey × FitRow)
fits_of_105 = fit 105 1 0 0 ∷ fit 105 2 1 1 ∷ fit 105 3 2 1 ∷ []

abbrev pub fits_after_105 : List (FitKey × FitRow)
fits_after_105 = fit 201 1 0 0 ∷ fit 202 1 0 0 ∷ []

-- Party 2 had room 101, and party 1 moved there from room 102 and is inside; party 3 is in room 201, which it never
-- entered; party 6 had room 202; parties 4 and 10 cancelled; 5 and 7 are booked. Party 8 had room 104, whose lock was
-- replaced; party 9 is inside. The lock of room 105 was replaced twice, and nobody had it.
abbrev pub rows : Rows
rows = record {
  day = Some (may 1);
  kinds = DBL ∷ SGL ∷ TWN ∷ [];
  rooms =
      room 101 DBL 2 3 true (Some 1) 3
      ∷ room 102 DBL 1 2 false None 1
      ∷ room 103 DBL 0 1 false None 0
      ∷ refitted 2 2 (room 104 DBL 3 4 true (Some 9) 3)
      ∷ refitted 3 1 (room 105 TWN 2 3 false None 2)
      ∷ room 201 SGL 0 2 false (Some 3) 0
      ∷ room 202 SGL 0 2 false None 0
      ∷ [];
  codes =
      code 0x50 105 0 ∷ code 0x51 105 1 ∷ code 0x52 105 2
      ∷ code a0 101 0 ∷ code a1 101 1 ∷ code a2 101 2
      ∷ code b0 102 0 ∷ code b1 102 1
      ∷ code c0 201 0 ∷ code c1 201 1
      ∷ code d0 103 0
      ∷ code 0xe0 202 0 ∷ code 0xe1 202 1
      ∷ code 0xf0 104 0 ∷ code 0xf1 104 1 ∷ code 0xf2 104 2 ∷ code 0xf3 104 3
      ∷ [];
  stays =
      stay 1 DBL (state.InHouse 101)
      ∷ stay 2 DBL state.Done
      ∷ stay 3 SGL (state.InHouse 201)
      ∷ stay 4 DBL state.Cancelled
      ∷ stay 5 DBL state.Booked
      ∷ stay 6 SGL state.Done
      ∷ stay 7 DBL state.Booked
      ∷ stay 8 DBL state.Done
      ∷ stay 9 DBL (state.InHouse 104)
      ∷ stay 10 DBL state.Cancelled
      ∷ [];
  cards =
      card 1 2 a0 a1 ∷ card 2 2 a0 a1
      ∷ card 3 1 b0 b1
      ∷ card 4 1 a1 a2 ∷ card 5 1 a1 a2
      ∷ card 6 3 c0 c1
      ∷ card 7 6 0xe0 0xe1
      ∷ card 8 8 0xf0 0xf1 ∷ card 9 9 0xf2 0xf3
      ∷ card 10 6 0xe0 0xe1
      ∷ [];
  inside = (101, 4) ∷ (104, 9) ∷ [];
  notes = first_notes ++ third_note ∷ note_of_102 ∷ other_notes ++ notes_of_105;
  fits = fits_before_105 ++ fits_of_105 ++ fits_after_105;
}

-- ---- changes of them

-- the first two changed round
abbrev pub swapped : {X : Type 0} → List X → List X
swapped (x ∷ y ∷ zs) = y ∷ x ∷ zs
swapped xs = xs

-- what stands at the number, changed
abbrev pub changed : {X : Type 0} → ℕ → (X → X) → List (ℕ × X) → List (ℕ × X)
changed n f [] = []
changed n f (e ∷ es) = (e.0, when (e.0 == n) f e.1) ∷ changed n f es

-- what stands at the number, at another one
abbrev pub moved : {X : Type 0} → ℕ → ℕ → List (ℕ × X) → List (ℕ × X)
moved n m [] = []
moved n m (e ∷ es) = (when (e.0 == n) (λ _. m) e.0, e.1) ∷ moved n m es

abbrev pub with_room : ℕ → (RoomRow → RoomRow) → Rows
with_room number f = record rows { rooms = changed number f rows.rooms }

abbrev pub with_stay : ℕ → (Stay → Stay) → Rows
with_stay number f = record rows { stays = changed number f rows.stays }

-- room 105 with other fits, a row changed, and other notes
abbrev pub with_105 : List (FitKey × FitRow) → (RoomRow → RoomRow) → List (NoteKey × Note) → Rows
with_105 its_fits f its_notes = record (with_room 105 f) {
  fits = fits_before_105 ++ its_fits ++ fits_after_105;
  notes = first_notes ++ third_note ∷ note_of_102 ∷ other_notes ++ its_notes;
}

abbrev pub with_card : ℕ → (Card → Card) → Rows
with_card number f = record rows { cards = changed number f rows.cards }

abbrev pub with_code : ℕ × CodeRow → Rows
with_code more = record rows { codes = rows.codes ++ more ∷ [] }

abbrev pub with_insides : List InsideKey → Rows
with_insides pairs = record rows { inside = pairs }
