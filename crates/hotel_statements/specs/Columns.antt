-- The rows of the nine tables: which columns each has, what a row with these columns says, and how the books write it.
use Rattle.std.specs.Prelude.{ℕ, Bool, true, false, List, [], ◌∷◌, Option, Some, None, ◌==◌}
use Rattle.sqlite_value.specs.declared.value.Value.TheVariants.{Text}
use Rattle.sqlite.specs.Order.{Row, column}
use Rattle.keycard_rules.specs.declared.card.Card.{Card}
use Rattle.keycard_rules.specs.declared.note.Act.{Act}
use Rattle.keycard_rules.specs.declared.note.Act.TheVariants.{Entered, Left, Recoded}
use Rattle.keycard_rules.specs.Note.{Note}
use Rattle.hotel_nights.specs.declared.stay.Stay.{Stay}
use Rattle.hotel_nights.specs.declared.stay.StayState.{StayState}
use Rattle.hotel_nights.specs.declared.stay.StayState.TheVariants.{Booked, InHouse, Done, Cancelled}
use Rattle.hotel_model.specs.declared.rows.RoomRow.{RoomRow}
use Rattle.hotel_model.specs.declared.rows.CodeRow.{CodeRow}
use Rattle.hotel_model.specs.declared.rows.FitRow.{FitRow}
use Rattle.hotel_model.specs.Rows.{InsideKey, NoteKey, FitKey}
use Rattle.hotel_model.specs.Stays.{room_of_state}
use Rattle.hotel_rows.specs.Stored.{state_of, act_of}
use Rattle.hotel_statements.specs.Values.{number_of, option_of, text_of, int, maybe_int}

-- An integer key stands first in a stored row, and nothing in its own column; `.._columns` are the columns as they are
-- declared.

-- ---- meta

abbrev pub meta_columns : Row → Row
meta_columns r = column r 0 ∷ column r 2 ∷ column r 3 ∷ []

-- the number of the row, with the version and the day
abbrev pub meta_of : Row → ℕ × (ℕ × Option ℕ)
meta_of v = (number_of (column v 0), (number_of (column v 1), option_of (column v 2)))

abbrev pub meta_written : ℕ × (ℕ × Option ℕ) → Row
meta_written e = int e.0 ∷ int e.1.0 ∷ maybe_int e.1.1 ∷ []

-- ---- kind

abbrev pub kind_columns : Row → Row
kind_columns r = column r 1 ∷ []

abbrev pub kind_of : Row → List ℕ
kind_of v = text_of (column v 0)

abbrev pub kind_written : List ℕ → Row
kind_written kind = Text kind ∷ []

-- ---- room

abbrev pub bit_of : Bool → ℕ
bit_of true = 1
bit_of false = 0

abbrev pub room_columns : Row → Row
room_columns r = column r 0 ∷ column r 2 ∷ column r 3 ∷ column r 4 ∷ column r 5 ∷ column r 6 ∷ column r 7 ∷ []

-- it has no column for the fit, nor for the notes before it
abbrev pub room_row_of : Row → RoomRow
room_row_of v = record {
  room = number_of (column v 0);
  kind = text_of (column v 1);
  lock_place = number_of (column v 2);
  codes = number_of (column v 3);
  secured = number_of (column v 4) == 1;
  party = option_of (column v 5);
  notes = number_of (column v 6);
  fit = 0;
  before = 0;
}

abbrev pub room_of : Row → ℕ × RoomRow
room_of v = (number_of (column v 0), room_row_of v)

abbrev pub room_written : ℕ × RoomRow → Row
room_written e = int e.0 ∷ Text e.1.kind ∷ int e.1.lock_place ∷ int e.1.codes ∷ int (bit_of e.1.secured)
    ∷ maybe_int e.1.party ∷ int e.1.notes ∷ []

-- ---- stay

abbrev pub state_number : StayState → ℕ
state_number Booked = 0
state_number (InHouse room) = 1
state_number Done = 2
state_number Cancelled = 3

abbrev pub stay_columns : Row → Row
stay_columns r = column r 0 ∷ column r 2 ∷ column r 3 ∷ column r 4 ∷ column r 5 ∷ column r 6 ∷ column r 7 ∷ []

abbrev pub stay_row_of : Row → Stay
stay_row_of v = record {
  party = number_of (column v 0);
  guest = text_of (column v 1);
  kind = text_of (column v 2);
  arrive = number_of (column v 3);
  depart = number_of (column v 4);
  state = state_of (number_of (column v 5)) (option_of (column v 6));
}

abbrev pub stay_of : Row → ℕ × Stay
stay_of v = (number_of (column v 0), stay_row_of v)

abbrev pub stay_written : ℕ × Stay → Row
stay_written e = int e.0 ∷ Text e.1.guest ∷ Text e.1.kind ∷ int e.1.arrive ∷ int e.1.depart
    ∷ int (state_number e.1.state) ∷ maybe_int (room_of_state e.1.state) ∷ []

-- ---- code

abbrev pub code_columns : Row → Row
code_columns r = column r 0 ∷ column r 2 ∷ column r 3 ∷ []

abbrev pub code_row_of : Row → CodeRow
code_row_of v = record { room = number_of (column v 1); place = number_of (column v 2) }

abbrev pub code_of : Row → ℕ × CodeRow
code_of v = (number_of (column v 0), code_row_of v)

abbrev pub code_written : ℕ × CodeRow → Row
code_written e = int e.0 ∷ int e.1.room ∷ int e.1.place ∷ []

-- ---- card

abbrev pub card_columns : Row → Row
card_columns r = column r 0 ∷ column r 2 ∷ column r 3 ∷ column r 4 ∷ []

abbrev pub card_row_of : Row → Card
card_row_of v = record {
  number = number_of (column v 0);
  party = number_of (column v 1);
  link = record { old_code = number_of (column v 2); new_code = number_of (column v 3) };
}

abbrev pub card_of : Row → ℕ × Card
card_of v = (number_of (column v 0), card_row_of v)

abbrev pub card_written : ℕ × Card → Row
card_written e = int e.0 ∷ int e.1.party ∷ int e.1.link.old_code ∷ int e.1.link.new_code ∷ []

-- ---- inside

abbrev pub inside_columns : Row → Row
inside_columns r = column r 1 ∷ column r 2 ∷ []

abbrev pub inside_of : Row → InsideKey
inside_of v = (number_of (column v 0), number_of (column v 1))

abbrev pub inside_written : InsideKey → Row
inside_written e = int e.0 ∷ int e.1 ∷ []

-- ---- note

abbrev pub act_number : Act → ℕ
act_number (Entered card link) = 0
act_number (Left card link) = 1
act_number (Recoded from to) = 2

abbrev pub act_card : Act → Option ℕ
act_card (Entered card link) = Some card
act_card (Left card link) = Some card
act_card (Recoded from to) = None

abbrev pub act_first : Act → ℕ
act_first (Entered card link) = link.old_code
act_first (Left card link) = link.old_code
act_first (Recoded from to) = from

abbrev pub act_second : Act → ℕ
act_second (Entered card link) = link.new_code
act_second (Left card link) = link.new_code
act_second (Recoded from to) = to

abbrev pub note_columns : Row → Row
note_columns r =
    column r 1 ∷ column r 2 ∷ column r 3 ∷ column r 4 ∷ column r 5 ∷ column r 6 ∷ column r 7 ∷ column r 8 ∷ []

-- it has no columns for its fit and its count; its number is that among all notes of the room
abbrev pub note_row_of : Row → Note
note_row_of v = record {
  room = number_of (column v 0);
  fit = 0;
  count = number_of (column v 1);
  act = act_of (number_of (column v 2)) (option_of (column v 3)) (number_of (column v 4)) (number_of (column v 5));
  day = number_of (column v 6);
  second = number_of (column v 7);
}

abbrev pub note_of : Row → NoteKey × Note
note_of v = ((number_of (column v 0), number_of (column v 1)), note_row_of v)

abbrev pub note_written : NoteKey × Note → Row
note_written e =
    int e.0.0 ∷ int e.0.1 ∷ int (act_number e.1.act) ∷ maybe_int (act_card e.1.act) ∷ int (act_first e.1.act)
    ∷ int (act_second e.1.act) ∷ int e.1.day ∷ int e.1.second ∷ []

-- ---- fit

abbrev pub fit_columns : Row → Row
fit_columns r = column r 1 ∷ column r 2 ∷ column r 3 ∷ column r 4 ∷ []

abbrev pub fit_row_of : Row → FitRow
fit_row_of v = record {
  room = number_of (column v 0);
  fit = number_of (column v 1);
  place = number_of (column v 2);
  before = number_of (column v 3);
}

abbrev pub fit_of : Row → FitKey × FitRow
fit_of v = ((number_of (column v 0), number_of (column v 1)), fit_row_of v)

abbrev pub fit_written : FitKey × FitRow → Row
fit_written e = int e.0.0 ∷ int e.0.1 ∷ int e.1.place ∷ int e.1.before ∷ []
