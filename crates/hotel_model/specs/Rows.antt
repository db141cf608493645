-- The rows of the books: nine lists in the order of their keys, and the words that say what stands in them.
use Rattle.std.specs.Prelude.{ℕ, Bool, false, List, [], ◌∷◌, Option, Some, None, ◌-◌, ◌==◌, if◌then◌else◌, length}
use Rattle.std.specs.Prelude.{bytes_eq}
use Rattle.std.specs.Ordering.{nat_cmp}
use Rattle.std.specs.List.{list_any, count_by, last_or}
use Rattle.std.specs.BTreeMap.{is_at, insert_entry}
use Rattle.std.specs.Map.{lookup, values_of}
use Rattle.keycard_rules.specs.declared.card.Card.{Card}
use Rattle.keycard_rules.specs.declared.card.Link.{Link}
use Rattle.keycard_rules.specs.Note.{Note}
use Rattle.hotel_nights.specs.declared.stay.Stay.{Stay}
use Rattle.hotel_model.specs.declared.rows.RoomRow.{RoomRow}
use Rattle.hotel_model.specs.declared.rows.CodeRow.{CodeRow}
use Rattle.hotel_model.specs.declared.rows.FitRow.{FitRow}
use Rattle.hotel_model.specs.Words.{when, said_of, pair_cmp}

-- ---- keys of two numbers

-- a code's place: the room, and the place among the room's codes
abbrev pub PlaceKey : Type 0
PlaceKey = ℕ × ℕ

-- a card that is inside: the room, and the card's number
abbrev pub InsideKey : Type 0
InsideKey = ℕ × ℕ

-- a note: the room, and the number among all notes of the room
abbrev pub NoteKey : Type 0
NoteKey = ℕ × ℕ

-- a fit: the room, and the fit's number
abbrev pub FitKey : Type 0
FitKey = ℕ × ℕ

-- ---- rows

-- The nine lists.
pub record Rows : Type 0 where
  -- the business day, once it is set
  pub day : Option ℕ
  -- the kinds of rooms
  pub kinds : List (List ℕ)
  -- the rooms, by number
  pub rooms : List (ℕ × RoomRow)
  -- the codes, each with its room and its place among the room's codes
  pub codes : List (ℕ × CodeRow)
  -- the stays, by the party's number
  pub stays : List (ℕ × Stay)
  -- the cards, by number
  pub cards : List (ℕ × Card)
  -- the cards that are inside a room, by room and card
  pub inside : List InsideKey
  -- the notes that were taken, by room and number: those of a room are numbered over all its fits
  pub notes : List (NoteKey × Note)
  -- the fits of the rooms, by room and fit
  pub fits : List (FitKey × FitRow)

-- the rows of an empty desk
abbrev pub no_rows : Rows
no_rows = record {
  day = None;
  kinds = [];
  rooms = [];
  codes = [];
  stays = [];
  cards = [];
  inside = [];
  notes = [];
  fits = [];
}

-- the kind is there
abbrev pub has_kind : Rows → List ℕ → Bool
has_kind rows kind = list_any (λ k. bytes_eq k kind) rows.kinds

-- what a table has at a number
abbrev pub at_number : {X : Type 0} → List (ℕ × X) → ℕ → Option X
at_number es n = lookup (is_at (nat_cmp n)) es

-- whether the room is there, and its row so
abbrev pub room_is : Rows → ℕ → (RoomRow → Bool) → Bool
room_is rows room test = said_of (at_number rows.rooms room) false test

-- what a column of a room's row says (0 where the room isn't there)
abbrev pub column_at : List (ℕ × RoomRow) → ℕ → (RoomRow → ℕ) → ℕ
column_at rooms room column = said_of (at_number rooms room) 0 column

-- how many rooms a kind has
abbrev pub rooms_of_kind : List (ℕ × RoomRow) → List ℕ → ℕ
rooms_of_kind rooms kind = count_by (λ row. bytes_eq row.kind kind) (values_of rooms)

-- the codes of a room, each with its place, in the order of places
abbrev pub codes_by_place : List (ℕ × CodeRow) → ℕ → List (ℕ × ℕ)
codes_by_place [] room = []
codes_by_place (e ∷ es) room =
    when (e.1.room == room) (λ placed. insert_entry nat_cmp placed e.1.place e.0) (codes_by_place es room)

-- the codes of a room, in the order of places
abbrev pub codes_at : Rows → ℕ → List ℕ
codes_at rows room = values_of (codes_by_place rows.codes room)

-- the place of the code that the room's lock holds (0 where the room isn't there)
abbrev pub lock_place_of : Rows → ℕ → ℕ
lock_place_of rows room = column_at rows.rooms room (λ row. row.lock_place)

-- the first of a list of codes (0 where there is none)
abbrev pub first_of : List ℕ → ℕ
first_of [] = 0
first_of (c ∷ cs) = c

-- the link of a list's last two codes, where it has two
abbrev pub last_link_of : List ℕ → Option Link
last_link_of [] = None
last_link_of (c ∷ []) = None
last_link_of (c ∷ d ∷ []) = Some (record { old_code = c; new_code = d })
last_link_of (c ∷ d ∷ e ∷ cs) = last_link_of (d ∷ e ∷ cs)

-- the later of two links, if there is one
abbrev pub or_else : Option Link → Option Link → Option Link
or_else (Some link) before = Some link
or_else None before = before

-- the fits of a room, in the order of their numbers
abbrev pub fits_at : List (FitKey × FitRow) → ℕ → List FitRow
fits_at [] room = []
fits_at (e ∷ es) room = when (e.0.0 == room) (λ fits. e.1 ∷ fits) (fits_at es room)

-- the fit of a number of a room
abbrev pub fit_at : Rows → ℕ → ℕ → Option FitRow
fit_at rows room number = lookup (is_at (pair_cmp (room, number))) rows.fits

-- the last of some fits
abbrev pub last_fit : List FitRow → Option FitRow
last_fit fs = last_or None fs

-- a fit of the room begins with the code at this place
abbrev pub begins_fit : Rows → ℕ → ℕ → Bool
begins_fit rows room place = list_any (λ (f : FitRow). f.place == place) (fits_at rows.fits room)

-- the link of the room's last two codes, where it has two and no fit begins with the last one
abbrev pub newest_link_at : Rows → ℕ → Option Link
newest_link_at rows room =
    if begins_fit rows room (length (codes_at rows room) - 1) then None else last_link_of (codes_at rows room)

-- the link of the party's card of the greatest number
abbrev pub link_of_last_card : List (ℕ × Card) → ℕ → Option Link
link_of_last_card [] party = None
link_of_last_card (e ∷ es) party =
    or_else (link_of_last_card es party) (if e.1.party == party then Some e.1.link else None)

-- the notes of a room, in the order of their numbers
abbrev pub notes_at : List (NoteKey × Note) → ℕ → List Note
notes_at [] room = []
notes_at (e ∷ es) room = when (e.0.0 == room) (λ notes. e.1 ∷ notes) (notes_at es room)
