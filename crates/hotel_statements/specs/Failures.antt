-- Why the look-ups fail: which statements each makes, and what else it may meet in the tables.
use Rattle.std.specs.Prelude.{◌≡◌, ◌⊎◌, ◌<◌, ◌^◌, ℕ, List, [], ◌∷◌, Some, None}
use Rattle.std.specs.Map.{lookup}
use Rattle.std.specs.BTreeMap.{is_at}
use Rattle.sqlite_value.specs.declared.value.Value.TheVariants.{Text}
use Rattle.sqlite.specs.Tree.{Trees}
use Rattle.sqlite.specs.State.{State}
use Rattle.keycard_rules.specs.declared.numbers.TheConstants.{LAST_NUMBER}
use Rattle.keycard_rules.specs.Note.{Note}
use Rattle.hotel_model.specs.declared.rows.RoomRow.{RoomRow}
use Rattle.hotel_model.specs.declared.rows.FitRow.{FitRow}
use Rattle.hotel_model.specs.Words.{pair_cmp}
use Rattle.hotel_model.specs.Rows.{at_number, fits_at, last_fit}
use Rattle.hotel_statements.specs.Values.{int}
use Rattle.hotel_statements.specs.Tables.{fits_in, bare_rooms_in, bare_notes_in}
use Rattle.hotel_statements.specs.Books.{IsKept}
use Rattle.hotel_statements.specs.Readable.{IsNumber, IsCode, IsDay, IsKind, OrNull, FirstColumnIs}
use Rattle.hotel_statements.specs.Readable.{IsStay, IsCodeRow, IsCard, IsFit, IsRoom, IsNote, IsUnderFits}
use Rattle.hotel_statements.specs.Readable.{IsInHouse, IsOfChain, IsBehind, IsOfStatus, IsOfInside, IsOfLocks}
use Rattle.hotel_statements.specs.Columns.{note_row_of}
use Rattle.hotel_statements.specs.Walks.{WalkFails}
use Rattle.sqlite.specs.Order.{Row}
use Rattle.hotel_statements.specs.Texts as text
use Rattle.hotel_statements.specs.LookUps.{FailsAt}

-- ---- one statement

abbrev pub DayFails : State → State → Type 0
DayFails = FailsAt (FirstColumnIs (OrNull IsDay)) text.select_day (int 1 ∷ [])

abbrev pub KindFails : List ℕ → State → State → Type 0
KindFails kind = FailsAt (FirstColumnIs IsKind) text.select_kind (Text kind ∷ [])

abbrev pub FitsFail : ℕ → State → State → Type 0
FitsFail room = FailsAt IsFit text.select_fits (int room ∷ [])

abbrev pub FitFails : ℕ → ℕ → State → State → Type 0
FitFails room number = FailsAt IsFit text.select_fit (int room ∷ int number ∷ [])

abbrev pub BareRoomFails : ℕ → State → State → Type 0
BareRoomFails room = FailsAt IsRoom text.select_room (int room ∷ [])

abbrev pub StayFails : ℕ → State → State → Type 0
StayFails party = FailsAt IsStay text.select_stay (int party ∷ [])

abbrev pub CodeFails : ℕ → State → State → Type 0
CodeFails code = FailsAt IsCodeRow text.select_code (int code ∷ [])

abbrev pub CardFails : ℕ → State → State → Type 0
CardFails number = FailsAt IsCard text.select_card (int number ∷ [])

abbrev pub BareNoteFails : ℕ → ℕ → State → State → Type 0
BareNoteFails room at = FailsAt IsNote text.select_note (int room ∷ int at ∷ [])

abbrev pub IsInsideFails : ℕ → ℕ → State → State → Type 0
IsInsideFails room number =
    FailsAt (FirstColumnIs (IsNumber LAST_NUMBER)) text.select_inside (int room ∷ int number ∷ [])

abbrev pub HasInsideFails : ℕ → State → State → Type 0
HasInsideFails room = FailsAt (FirstColumnIs (IsNumber LAST_NUMBER)) text.select_any_inside (int room ∷ [])

abbrev pub InsideFails : ℕ → State → State → Type 0
InsideFails room = FailsAt (FirstColumnIs (IsNumber LAST_NUMBER)) text.select_cards_inside (int room ∷ [])

abbrev pub CodeAtFails : ℕ → ℕ → State → State → Type 0
CodeAtFails room place = FailsAt (FirstColumnIs IsCode) text.select_code_at (int room ∷ int place ∷ [])

abbrev pub StaysFail : List ℕ → State → State → Type 0
StaysFail kind = FailsAt IsStay text.select_stays_of_kind (Text kind ∷ [])

abbrev pub LastPartyFails : State → State → Type 0
LastPartyFails = FailsAt (FirstColumnIs (IsNumber LAST_NUMBER)) text.select_last_party []

abbrev pub LastCardFails : State → State → Type 0
LastCardFails = FailsAt (FirstColumnIs (IsNumber LAST_NUMBER)) text.select_last_card []

-- ---- several

abbrev pub NumbersFail : State → State → Type 0
NumbersFail old new = LastPartyFails old new ⊎ LastCardFails old new

-- a room that has no fit
abbrev pub LacksFits : ℕ → Trees → Type 0
LacksFits room db =
    (row : RoomRow) × (at_number (bare_rooms_in db) room ≡ Some row) × (last_fit (fits_at (fits_in db) room) ≡ None)

abbrev pub RoomFails : ℕ → State → State → Type 0
RoomFails room old new =
    FitsFail room old new ⊎ (BareRoomFails room old new ⊎ (IsKept old × LacksFits room old.now.trees))

-- a note of a room that is under no fit of it, or at no time
abbrev pub LacksFit : ℕ → ℕ → Trees → Type 0
LacksFit room number db =
    (note : Note) × (lookup (is_at (pair_cmp (room, number))) (bare_notes_in db) ≡ Some note)
    × ¬ IsUnderFits (fits_at (fits_in db) room) note

-- of the note of this number among all of the room, which is below 2^63
abbrev pub NoteFails : ℕ → State → State → Type 0
NoteFails room old new =
    FitsFail room old new
    ⊎ ((number : ℕ) × (number < 2 ^ 63)
    × (BareNoteFails room number old new ⊎ (IsKept old × LacksFit room number old.now.trees)))

-- ---- walks

-- the lists that are walked
pub data WalkedList : Type 0 where
  arrivals : (day : ℕ) → WalkedList
  in_house : WalkedList
  chain : (room : ℕ) → WalkedList
  left_behind : WalkedList
  audit : (room : ℕ) → WalkedList
  room_status : WalkedList
  cards_inside : WalkedList
  bookings : WalkedList
  availability : WalkedList
  cards_given : (party : ℕ) → WalkedList
  locks : WalkedList

-- a note that a room with these fits has
abbrev pub IsNoteUnder : List FitRow → Row → Type 0
IsNoteUnder fits row = IsNote row × IsUnderFits fits (note_row_of row)

-- Why the walk of a list fails: the look-up before it, if it makes one, or its statement.
abbrev pub ListFails : WalkedList → State → State → Type 0
ListFails (arrivals day) old new = WalkFails IsStay text.walk_arrivals (int day ∷ []) old new
ListFails in_house old new = WalkFails IsInHouse text.walk_in_house [] old new
ListFails (chain room) old new =
    BareRoomFails room old new ⊎ WalkFails IsOfChain text.walk_chain (int room ∷ []) old new
ListFails left_behind old new = WalkFails IsBehind text.walk_left_behind [] old new
ListFails (audit room) old new =
    FitsFail room old new
    ⊎ WalkFails (IsNoteUnder (fits_at (fits_in old.now.trees) room)) text.walk_audit (int room ∷ []) old new
ListFails room_status old new = WalkFails IsOfStatus text.walk_room_status [] old new
ListFails cards_inside old new = WalkFails IsOfInside text.walk_inside [] old new
ListFails bookings old new = WalkFails IsStay text.walk_bookings [] old new
ListFails availability old new = DayFails old new ⊎ WalkFails (FirstColumnIs IsKind) text.read_kind [] old new
ListFails (cards_given party) old new = WalkFails IsCard text.walk_cards_given (int party ∷ []) old new
ListFails locks old new = WalkFails IsOfLocks text.walk_locks [] old new
