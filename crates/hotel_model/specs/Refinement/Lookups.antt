-- What the look-ups of the books answer, read off the rows.
use Rattle.std.specs.Prelude.{ℕ, List, [], ◌∷◌, Option, Some, None, ◌+◌, ◌==◌, ◌&&◌, if◌then◌else◌, nat_lt, filter}
use Rattle.std.specs.Prelude.{bytes_eq}
use Rattle.std.specs.Map.{lookup, keys_of, values_of}
use Rattle.std.specs.BTreeMap.{is_at}
use Rattle.keycard_rules.specs.{declared.card.Card.Card, Note.Note}
use Rattle.keycard_rules.specs.declared.numbers.TheConstants.{LAST_NUMBER}
use Rattle.hotel_nights.specs.{declared.stay.Stay.Stay, FullNight.is_full, FullNight.first_day}
use Rattle.hotel_model.specs.{declared.rows.RoomRow.RoomRow, declared.rows.CodeRow.CodeRow, Words.pair_cmp}
use Rattle.hotel_model.specs.{Words.said_of, Rows.Rows, Rows.at_number, Rows.rooms_of_kind, Rows.fit_at}
use Rattle.hotel_model.specs.Guests.{those_in}

abbrev pub room_at : Rows → ℕ → Option RoomRow
room_at rows room = at_number rows.rooms room

-- all codes that were issued
abbrev pub codes_in : Rows → List ℕ
codes_in rows = keys_of rows.codes

-- where a code stands
abbrev pub code_place : Rows → ℕ → Option CodeRow
code_place rows code = at_number rows.codes code

-- the first code that stands at a place of a room
abbrev pub first_code_at : List (ℕ × CodeRow) → ℕ → ℕ → Option ℕ
first_code_at [] room place = None
first_code_at (e ∷ es) room place =
    if (e.1.room == room) && (e.1.place == place) then Some e.0 else first_code_at es room place

-- the code at a place of a room
abbrev pub code_at : Rows → ℕ → ℕ → Option ℕ
code_at rows room place = first_code_at rows.codes room place

abbrev pub stay_at : Rows → ℕ → Option Stay
stay_at rows party = at_number rows.stays party

-- the stays of a kind, by the party's number
abbrev pub stays_of_kind : Rows → List ℕ → List Stay
stays_of_kind rows kind = filter (λ stay. bytes_eq stay.kind kind) (values_of rows.stays)

abbrev pub card_at : Rows → ℕ → Option Card
card_at rows number = at_number rows.cards number

-- the numbers of the cards inside a room
abbrev pub inside_at : Rows → ℕ → List ℕ
inside_at rows room = those_in rows.inside room

-- the note, where it is of this fit
abbrev pub of_fit : ℕ → Option Note → Option Note
of_fit fit (Some note) = if note.fit == fit then Some note else None
of_fit fit None = None

-- the note of a number
abbrev pub note_numbered : Rows → ℕ → ℕ → Option Note
note_numbered rows room number = lookup (is_at (pair_cmp (room, number))) rows.notes

-- the note of a count of a fit: its number is that of those before the fit and its count
abbrev pub note_at : Rows → ℕ → ℕ → ℕ → Option Note
note_at rows room fit count =
    said_of (fit_at rows room fit) None (λ f. of_fit fit (note_numbered rows room (f.before + count)))

-- the first night, of so many from a day on, on which the standing stays of a kind take all its rooms
abbrev pub first_full_on : Rows → List ℕ → ℕ → ℕ → Option ℕ
first_full_on rows kind d n = first_day (is_full (values_of rows.stays) kind (rooms_of_kind rows.rooms kind)) d n

-- the number after so many, up to the last number
abbrev pub number_after : ℕ → Option ℕ
number_after n = if nat_lt n LAST_NUMBER then Some (n + 1) else None
