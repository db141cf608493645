-- Which rows of columns are read: those whose columns say values in range.
use Rattle.std.specs.Prelude.{◌≡◌, ◌≢◌, ◌⊎◌, ◌≤◌, ◌<◌, ◌^◌, ◌-◌, ℕ, true, List, length, Some, IsUtf8}
use Rattle.sqlite_value.specs.declared.value.Value.{Value}
use Rattle.sqlite_value.specs.declared.value.Value.TheVariants.{Null, Text}
use Rattle.sqlite.specs.Order.{Row, column}
use Rattle.keycard_rules.specs.declared.issued.LookFault.{LookFault}
use Rattle.keycard_rules.specs.declared.issued.LookFault.TheVariants as why
use Rattle.keycard_rules.specs.declared.numbers.TheConstants.{LAST_FIT, LAST_NUMBER, LAST_ROOM}
use Rattle.keycard_rules.specs.declared.note.TheConstants.{LAST_SECOND}
use Rattle.keycard_rules.specs.Numbers.{IsNumberUpTo}
use Rattle.keycard_rules.specs.Note.{Note, IsTimed}
use Rattle.hotel_nights.specs.Kinds.{is_kind}
use Rattle.hotel_nights.specs.Guests.{is_guest}
use Rattle.hotel_model.specs.declared.rows.FitRow.{FitRow}
use Rattle.hotel_model.specs.Ranges as range
use Rattle.hotel_rows.specs.Joined.{fit_of_number}
use Rattle.hotel_statements.specs.Values.{int}

-- ---- values: a number that isn't below 0, a text, and one that a `u32` holds

abbrev pub IsNatural : Value → Type 0
IsNatural v = (n : ℕ) × (v ≡ int n)

abbrev pub IsText : Value → Type 0
IsText v = (t : List ℕ) × (v ≡ Text t) × IsUtf8 t

abbrev pub IsCount : Value → Type 0
IsCount v = (n : ℕ) × (v ≡ int n) × (n < 2 ^ 32)

-- a number from 1 up to a greatest one
abbrev pub IsNumber : ℕ → Value → Type 0
IsNumber most v = (n : ℕ) × (v ≡ int n) × IsNumberUpTo most n

abbrev pub IsCode : Value → Type 0
IsCode v = (n : ℕ) × (v ≡ int n) × range.IsCode n

abbrev pub IsDay : Value → Type 0
IsDay v = (n : ℕ) × (v ≡ int n) × range.IsDay n

-- a second of a day
abbrev pub IsSecond : Value → Type 0
IsSecond v = (n : ℕ) × (v ≡ int n) × (n ≤ LAST_SECOND)

abbrev pub IsBit : Value → Type 0
IsBit v = (v ≡ int 0) ⊎ (v ≡ int 1)

abbrev pub IsKind : Value → Type 0
IsKind v = (t : List ℕ) × (v ≡ Text t) × IsUtf8 t × (is_kind t ≡ true)

abbrev pub IsGuest : Value → Type 0
IsGuest v = (t : List ℕ) × (v ≡ Text t) × IsUtf8 t × (is_guest t ≡ true)

-- or none
abbrev pub OrNull : (Value → Type 0) → Value → Type 0
OrNull Is v = (v ≡ Null) ⊎ Is v

-- why a column isn't read so, but for lack of memory: it says no such value
abbrev pub IsUnreadAt : (Value → Type 0) → Row → ℕ → LookFault → Type 0
IsUnreadAt Is r at fault = fault ≢ why.Memory → at < length r → ¬ Is (column r at)

-- ---- two columns

-- how a stay stands, and its room
abbrev pub IsState : Value → Value → Type 0
IsState state room = ((state ≡ int 1) × IsNumber LAST_ROOM room)
    ⊎ (((state ≡ int 0) ⊎ ((state ≡ int 2) ⊎ (state ≡ int 3))) × (room ≡ Null))

-- what happened, and its card
abbrev pub IsAct : Value → Value → Type 0
IsAct act card = (((act ≡ int 0) ⊎ (act ≡ int 1)) × IsNumber LAST_NUMBER card) ⊎ ((act ≡ int 2) × (card ≡ Null))

-- ---- rows of columns

abbrev pub IsStay : Row → Type 0
IsStay r = (7 ≤ length r) × IsNumber LAST_NUMBER (column r 0) × IsGuest (column r 1) × IsKind (column r 2)
    × IsDay (column r 3) × IsDay (column r 4) × IsState (column r 5) (column r 6)

abbrev pub IsCodeRow : Row → Type 0
IsCodeRow r = (3 ≤ length r) × IsNumber LAST_ROOM (column r 1) × IsCount (column r 2)

abbrev pub IsCard : Row → Type 0
IsCard r = (4 ≤ length r) × IsNumber LAST_NUMBER (column r 0) × IsNumber LAST_NUMBER (column r 1)
    × IsCode (column r 2) × IsCode (column r 3)

abbrev pub IsFit : Row → Type 0
IsFit r = (4 ≤ length r) × IsNumber LAST_ROOM (column r 0) × IsNumber LAST_FIT (column r 1)
    × IsCount (column r 2) × IsCount (column r 3)

-- a room and a note as their tables have them
abbrev pub IsRoom : Row → Type 0
IsRoom r = (7 ≤ length r) × IsNumber LAST_ROOM (column r 0) × IsKind (column r 1) × IsCount (column r 2)
    × IsCount (column r 3) × IsBit (column r 4) × OrNull (IsNumber LAST_NUMBER) (column r 5) × IsCount (column r 6)

abbrev pub IsNote : Row → Type 0
IsNote r = (8 ≤ length r) × IsNumber LAST_ROOM (column r 0) × IsCount (column r 1) × IsAct (column r 2) (column r 3)
    × IsCode (column r 4) × IsCode (column r 5) × IsDay (column r 6) × IsCount (column r 7)

-- the first column says such a value
abbrev pub FirstColumnIs : (Value → Type 0) → Row → Type 0
FirstColumnIs Is r = (1 ≤ length r) × Is (column r 0)

-- ---- rows of lists

abbrev pub IsInHouse : Row → Type 0
IsInHouse r =
    (6 ≤ length r) × IsNumber LAST_ROOM (column r 0) × IsNumber LAST_NUMBER (column r 1) × IsGuest (column r 2)
    × IsKind (column r 3) × IsDay (column r 4) × IsBit (column r 5)

abbrev pub IsOfChain : Row → Type 0
IsOfChain r = (2 ≤ length r) × IsCount (column r 0) × IsCode (column r 1)

abbrev pub IsBehind : Row → Type 0
IsBehind r = (5 ≤ length r) × IsNumber LAST_ROOM (column r 0) × IsCode (column r 1) × IsCode (column r 2)
    × IsCount (column r 3) × IsCount (column r 4)

abbrev pub IsOfStatus : Row → Type 0
IsOfStatus r = (6 ≤ length r) × IsNumber LAST_ROOM (column r 0) × IsKind (column r 1)
    × OrNull (IsNumber LAST_NUMBER) (column r 2) × IsCount (column r 3) × IsCount (column r 4) × IsBit (column r 5)

-- when a note was taken, or nothing where there is no note
abbrev pub IsMoment : Value → Value → Type 0
IsMoment day second = (day ≡ Null) ⊎ (IsDay day × IsSecond second)

-- the last fit of a room with the notes of the room, those before the fit, and the moment of the last note
abbrev pub IsOfLocks : Row → Type 0
IsOfLocks r = (6 ≤ length r) × IsNumber LAST_ROOM (column r 0) × IsNumber LAST_FIT (column r 1)
    × IsCount (column r 2) × IsCount (column r 3) × IsMoment (column r 4) (column r 5)

abbrev pub IsOfInside : Row → Type 0
IsOfInside r = (3 ≤ length r) × IsNumber LAST_ROOM (column r 0) × IsNumber LAST_NUMBER (column r 1)
    × IsNumber LAST_NUMBER (column r 2)

-- a note of this number and time is one of a room with these fits
abbrev pub IsUnderFits : List FitRow → Note → Type 0
IsUnderFits fits note =
    (f : FitRow) × (fit_of_number fits note.count ≡ Some f)
    × IsNumberUpTo LAST_NUMBER (note.count - f.before) × IsTimed note.day note.second
