-- The rules of sound rows, fourth part: insides and notes. Each rule is a test of all rows.
use Rattle.std.specs.Prelude.{ℕ, Bool, true, false, List, [], ◌∷◌, ◌+◌, ◌==◌, ◌&&◌, ◌||◌, not, nat_le, nat_lt, length}
use Rattle.std.specs.Prelude.{is_some}
use Rattle.std.specs.List.{list_all}
use Rattle.keycard_rules.specs.declared.card.Card.{Card}
use Rattle.keycard_rules.specs.declared.card.Link.{Link}
use Rattle.keycard_rules.specs.Note.{Note}
use Rattle.keycard_rules.specs.declared.note.Act.{Act}
use Rattle.keycard_rules.specs.declared.note.Act.TheVariants as act
use Rattle.keycard_rules.specs.declared.note.TheConstants.{LAST_SECOND}
use Rattle.hotel_model.specs.declared.rows.CodeRow.{CodeRow}
use Rattle.hotel_model.specs.declared.rows.RoomRow.{RoomRow}
use Rattle.hotel_model.specs.declared.rows.FitRow.{FitRow}
use Rattle.hotel_model.specs.Words.{when, said_of}
use Rattle.hotel_model.specs.Rows.{Rows, InsideKey, NoteKey, at_number, room_is, fit_at, fits_at, last_fit}
use Rattle.hotel_model.specs.Cards.{same_link}
use Rattle.hotel_model.specs.SoundRooms.{count_up, each_room, is_day}
use Rattle.hotel_model.specs.SoundCards.{code_is, stands_at, is_newest}

-- whether the card is there, and so
abbrev pub card_is : Rows → ℕ → (Card → Bool) → Bool
card_is rows number test = said_of (at_number rows.cards number) false test

-- ---- inside

-- the place of the code that the room's last fit begins with (0 where it has none)
abbrev pub last_fit_place : Rows → ℕ → ℕ
last_fit_place rows room = said_of (last_fit (fits_at rows.fits room)) 0 (λ f. f.place)

-- a card with the code entered the room's present lock: its place is after the last fit's, and not after the lock's
abbrev pub has_entered : Rows → ℕ → RoomRow → CodeRow → Bool
has_entered rows room row new = nat_lt (last_fit_place rows room) new.place && nat_le new.place row.lock_place

-- the card's link stands at the room, its new code after the last fit's first one and not after the lock's; in a
-- secured room it is the newest
abbrev pub fits_inside : Rows → ℕ → RoomRow → Card → Bool
fits_inside rows room row card =
    stands_at rows room card.link && code_is rows card.link.new_code (has_entered rows room row)
    && (not row.secured || is_newest rows room card.link)

-- what is inside is a card that fits its room
abbrev pub insides_fit : Rows → Bool
insides_fit rows =
    list_all (λ (e : InsideKey). room_is rows e.0 (λ row. card_is rows e.1 (fits_inside rows e.0 row))) rows.inside

-- ---- note

-- the card of the number has this link, which stands at the room
abbrev pub has_link_at : Rows → ℕ → ℕ → Link → Bool
has_link_at rows room number link = card_is rows number (λ card. same_link card.link link && stands_at rows room link)

-- the second of two codes stands at the room, after the first
abbrev pub comes_later : ℕ → CodeRow → CodeRow → Bool
comes_later room first second = (first.room == room) && (second.room == room) && nat_lt first.place second.place

-- what the note says of cards and codes fits the room
abbrev pub act_fits : Rows → ℕ → Act → Bool
act_fits rows room (act.Entered number link) = has_link_at rows room number link
act_fits rows room (act.Left number link) = has_link_at rows room number link
act_fits rows room (act.Recoded from to) = code_is rows from (λ first. code_is rows to (comes_later room first))

-- the note is of its room, which is there, what it says fits the room, and its time is one
abbrev pub note_fits : Rows → NoteKey × Note → Bool
note_fits rows e =
    (e.1.room == e.0.0) && is_some (at_number rows.rooms e.0.0) && act_fits rows e.0.0 e.1.act && is_day e.1.day
    && nat_le e.1.second LAST_SECOND

-- each note fits
abbrev pub notes_fit : Rows → Bool
notes_fit rows = list_all (note_fits rows) rows.notes

-- the numbers of a room's notes
abbrev pub numbers_at : List (NoteKey × Note) → ℕ → List ℕ
numbers_at [] room = []
numbers_at (e ∷ es) room = when (e.0.0 == room) (λ numbers. e.0.1 ∷ numbers) (numbers_at es room)

-- the notes of each room are numbered from 1 to as many as its row says
abbrev pub notes_counted : Rows → Bool
notes_counted rows = each_room rows (λ row. count_up 1 (numbers_at rows.notes row.room)
    && (length (numbers_at rows.notes row.room) == row.notes))

-- whether the room has the fit, and its row is so
abbrev pub fit_is : Rows → ℕ → ℕ → (FitRow → Bool) → Bool
fit_is rows room number test = said_of (fit_at rows room number) false test

-- the number of a note is that of those before its fit and its count, and it was taken before the next fit
abbrev pub is_of_fit : Rows → NoteKey × Note → Bool
is_of_fit rows e = nat_le 1 e.1.count && fit_is rows e.0.0 e.1.fit (λ f. e.0.1 == f.before + e.1.count)
    && said_of (fit_at rows e.0.0 (e.1.fit + 1)) true (λ next. nat_le e.0.1 next.before)

-- each note has the fit and the count of its number
abbrev pub notes_of_fits : Rows → Bool
notes_of_fits rows = list_all (is_of_fit rows) rows.notes
