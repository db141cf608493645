-- The statements of one transaction, each a step of it, and the change that they make together.
use Rattle.std.specs.Prelude.{ℕ, ◌+◌, ◌≡◌, ◌==◌, ◌&&◌, ◌||◌, not, nat_le, nat_lt, Bool, true, false, List, [], Option}
use Rattle.std.specs.Prelude.{Some, None, Result, Ok, OnOk, IsTrue}
use Rattle.std.specs.List.{list_all}
use Rattle.std.specs.Ordering.{nat_cmp}
use Rattle.std.specs.Cmp.Lexicographic.{slice_cmp}
use Rattle.std.specs.BTreeMap.{insert_entry, is_at}
use Rattle.std.specs.BTreeSet.{insert_key}
use Rattle.std.specs.Set.{remove_key}
use Rattle.keycard_rules.specs.declared.card.Card.{Card}
use Rattle.keycard_rules.specs.Note.{Note}
use Rattle.hotel_nights.specs.declared.stay.Stay.{Stay}
use Rattle.hotel_nights.specs.declared.stay.StayState.{StayState}
use Rattle.hotel_nights.specs.declared.stay.StayState.TheVariants as state
use Rattle.hotel_model.specs.declared.rows.RoomRow.{RoomRow}
use Rattle.hotel_model.specs.declared.rows.CodeRow.{CodeRow}
use Rattle.hotel_model.specs.declared.rows.FitRow.{FitRow}
use Rattle.hotel_model.specs.Words.{pair_cmp, said_of}
use Rattle.hotel_model.specs.Stays.{in_state}
use Rattle.hotel_model.specs.Guests.{those_elsewhere}
use Rattle.hotel_model.specs.Refits.{fit_row}
use Rattle.hotel_model.specs.Refinement.Lookups.{note_numbered}
use Rattle.hotel_model.specs.Refinement.Change.{room_changed, without_party, freed_by, codes_of, notes_in, before_in}
use Rattle.hotel_rows.specs.Joined.{fit_of_number}
use Rattle.sqlite.specs.Tree.{Trees}
use Rattle.sqlite.specs.Order.{Row}
use Rattle.sqlite.specs.State.{State, HasCleanDisk, KeepsCommit, Survives, ExecutesInside}
use Rattle.sqlite.specs.declared.error.Error.{Error}
use Rattle.hotel_model.specs.Rows.{Rows, fits_at}
use Rattle.hotel_statements.specs.declared.version.Layout.{Layout}
use Rattle.hotel_statements.specs.declared.version.Layout.TheVariants.{Nine}
use Rattle.hotel_statements.specs.declared.version.TheConstants.{INDEXES}
use Rattle.hotel_statements.specs.Schema.{schema_of, version_of}
use Rattle.hotel_statements.specs.Tables.{AreTablesOf, AreTables, rows_in}

-- Within a transaction, the database is laid out so, and its tables are those of a desk.
pub record IsMidOf (layout : Layout) (s : State) : Type 0 where
  pub schema : s.now.schema ≡ schema_of layout
  pub inside : IsTrue s.in_transaction
  pub tables : AreTablesOf (version_of layout) s.now.trees

-- with all indexes
abbrev pub IsMid : State → Type 0
IsMid = IsMidOf (Nine INDEXES)

-- A step of a transaction: nothing is committed, and the rows after it are what is made of those before.
pub record MovesRows (old new : State) (make : Rows → Rows) : Type 0 where
  pub was_open : IsTrue old.is_open
  pub is_open : IsTrue new.is_open
  pub committed : new.committed ≡ old.committed
  pub mid : IsMid new
  pub rows_are : rows_in new.now.trees ≡ make (rows_in old.now.trees)

-- A statement that was run in a transaction, from old to new.
pub record RunsStatement (text : List ℕ) (params : Row) (old new : State)
    (result : Result (Unit {0}) Error) : Type 0 where
  pub ran : HasCleanDisk new → OnOk result ((count : ℕ) × ExecutesInside 0 text params old new (Ok count))
  pub kept : HasCleanDisk new → KeepsCommit old new
  pub survives : Survives old new (λ _. ⊥)

-- the tables are those of a desk, whose rows fit, if the connection was open
abbrev pub IsMidWith : (Rows → Type 0) → State → Type 0
IsMidWith fits s = IsTrue s.is_open → IsMid s × fits (rows_in s.now.trees)

-- Statements of a transaction, from old to new: where none failed, and the rows fit, the rows are what is made of those
-- before. Nothing is committed, and a crash leaves nothing new.
pub record MakesRows (fits : Rows → Type 0) (make : Rows → Rows) (old new : State)
    (result : Result (Unit {0}) Error) : Type 0 where
  pub made : HasCleanDisk new → OnOk result (IsMidWith fits old → MovesRows old new make)
  pub kept : HasCleanDisk new → KeepsCommit old new
  pub survives : Survives old new (λ _. ⊥)

-- The trees are those of a desk, whose rows are what is made of the rows before.
pub record IsMadeOf (make : Rows → Rows) (old new : Trees) : Type 0 where
  pub tables : AreTables new
  pub rows_are : rows_in new ≡ make (rows_in old)

-- ---- what each statement makes of the rows

abbrev pub day_set : ℕ → Rows → Rows
day_set day rows = record rows { day = Some day }

abbrev pub kind_added : List ℕ → Rows → Rows
kind_added kind rows = record rows { kinds = insert_key (slice_cmp nat_cmp) rows.kinds kind }

-- a room's row as its table has it, without its fit
abbrev pub bare_room : RoomRow → RoomRow
bare_room row = record row { fit = 0; before = 0 }

-- the room has no fit
abbrev pub IsWithoutFit : ℕ → Rows → Type 0
IsWithoutFit room rows = fits_at rows.fits room ≡ []

abbrev pub room_added : RoomRow → Rows → Rows
room_added row rows = record rows { rooms = insert_entry nat_cmp rows.rooms row.room (bare_room row) }

-- the entry is of another room, or of a number below this one
abbrev pub is_below : {X : Type 0} → ℕ → ℕ → (ℕ × ℕ) × X → Bool
is_below room number e = not (e.0.0 == room) || nat_lt e.0.1 number

-- the entry is of another room, or of a number up to this one
abbrev pub is_up_to : {X : Type 0} → ℕ → ℕ → (ℕ × ℕ) × X → Bool
is_up_to room number e = not (e.0.0 == room) || nat_le e.0.1 number

-- The fit comes after its room's others, and all notes of the room were taken before it.
pub record IsNextFit (fit : FitRow) (rows : Rows) : Type 0 where
  pub later : list_all (is_below fit.room fit.fit) rows.fits ≡ true
  pub noted : list_all (is_up_to fit.room fit.before) rows.notes ≡ true

-- the room's last fit
abbrev pub fit_added : FitRow → Rows → Rows
fit_added fit rows = record rows {
  rooms = room_changed fit.room (λ row. record row { fit = fit.fit; before = fit.before }) rows.rooms;
  fits = insert_entry pair_cmp rows.fits (fit.room, fit.fit) fit;
}

abbrev pub code_added : ℕ → CodeRow → Rows → Rows
code_added code at rows = record rows { codes = insert_entry nat_cmp rows.codes code at }

abbrev pub stay_added : Stay → Rows → Rows
stay_added stay rows = record rows { stays = insert_entry nat_cmp rows.stays stay.party stay }

abbrev pub card_added : Card → Rows → Rows
card_added card rows = record rows { cards = insert_entry nat_cmp rows.cards card.number card }

abbrev pub inside_added : ℕ → ℕ → Rows → Rows
inside_added room number rows = record rows { inside = insert_key pair_cmp rows.inside (room, number) }

-- the number is that of the notes before the fit, and of the count
abbrev pub counts_to : Note → ℕ → FitRow → Bool
counts_to note number f = (f.fit == note.fit) && (number == f.before + note.count)

-- The room has no note of the number, by which the note has its fit and count: its table has no columns for them.
pub record IsNewNote (note : Note) (number : ℕ) (rows : Rows) : Type 0 where
  pub new : note_numbered rows note.room number ≡ None
  pub counted : said_of (fit_of_number (fits_at rows.fits note.room) number) false (counts_to note number) ≡ true

abbrev pub note_added : Note → ℕ → Rows → Rows
note_added note number rows = record rows { notes = insert_entry pair_cmp rows.notes (note.room, number) note }

-- a code was issued at the room, to the party
abbrev pub room_issued : ℕ → ℕ → ℕ → Rows → Rows
room_issued room codes party rows = record rows {
  rooms = room_changed room
      (λ row. record row { codes = codes; secured = false; party = Some party }) rows.rooms;
}

abbrev pub room_freed : ℕ → Rows → Rows
room_freed room rows = record rows { rooms = without_party room rows.rooms }

-- a note of the room's lock was taken
abbrev pub room_noted : ℕ → ℕ → Bool → ℕ → Rows → Rows
room_noted room lock_place secured notes rows = record rows {
  rooms = room_changed room
      (λ row. record row { lock_place = lock_place; secured = secured; notes = notes }) rows.rooms;
}

-- the lock was replaced: it holds the code at this place, and the room has so many
abbrev pub room_refitted : ℕ → ℕ → ℕ → Rows → Rows
room_refitted room lock_place codes rows = record rows {
  rooms = room_changed room (λ row. record row { lock_place = lock_place; codes = codes; secured = false })
      rows.rooms;
}

abbrev pub stay_set : ℕ → StayState → Rows → Rows
stay_set party state rows = record rows { stays = in_state party state rows.stays }

abbrev pub inside_gone : ℕ → ℕ → Rows → Rows
inside_gone room number rows = record rows { inside = remove_key (is_at (pair_cmp (room, number))) rows.inside }

abbrev pub insides_gone : ℕ → Rows → Rows
insides_gone room rows = record rows { inside = those_elsewhere room rows.inside }

-- ---- the two halves of an issue

-- a party leaves its room, if it has one, and a code is added
abbrev pub code_given : Option ℕ → ℕ → CodeRow → Rows → Rows
code_given leaves code at rows = code_added code at (record rows { rooms = freed_by leaves rows.rooms })

-- the room has so many codes and the card's party, whose stay is in that room
abbrev pub card_given : Card → ℕ → ℕ → Rows → Rows
card_given card room codes rows =
    stay_set card.party (state.InHouse room) (card_added card (room_issued room codes card.party rows))

-- ---- a room that is added

-- no fit and no note is of a room of this number
pub record IsNewRoom (room : ℕ) (rows : Rows) : Type 0 where
  pub fits : IsWithoutFit room rows
  pub next : IsNextFit (fit_row room 1 0 0) rows

-- ---- a lock that is replaced

-- the room has so many codes, of which the lock holds the last, and no card is inside
abbrev pub lock_replaced : ℕ → ℕ → ℕ → Rows → Rows
lock_replaced room code codes rows = insides_gone room
    (room_refitted room codes (codes + 1) (code_added code (record { room = room; place = codes }) rows))

-- The room has so many codes and notes, and the fit is its next one.
pub record IsRefit (room fit codes notes : ℕ) (rows : Rows) : Type 0 where
  pub codes_are : codes_of rows room ≡ codes
  pub notes_are : notes_in rows room ≡ notes
  pub next : IsNextFit (fit_row room fit codes notes) rows

-- ---- a note that is taken

-- the note is added, and its room has what follows of it
abbrev pub note_given : Note → ℕ → ℕ → Bool → Rows → Rows
note_given note number lock_place secured rows = room_noted note.room lock_place secured number
    (note_added note number rows)

-- The number is that of the room's notes before its present fit, and of the count; and the note is new.
pub record IsNumbered (note : Note) (number : ℕ) (rows : Rows) : Type 0 where
  pub number_is : before_in rows note.room + note.count ≡ number
  pub note_new : IsNewNote note number rows
