-- The SQL statements of each change, with the values of their parameters, and what comes of statements that are run in
-- turn.
use Rattle.std.specs.Prelude.{ℕ, zero, suc, ◌+◌, ◌≡◌, ◌⊎◌, false, Bool, IsTrue, List, [], ◌∷◌, ◌++◌, Option, Some, None}
use Rattle.std.specs.Prelude.{Result}
use Rattle.std.specs.Prelude.{Ok, Err, OnOk, map, take, drop}
use Rattle.keycard_rules.specs.declared.card.Card.{Card}
use Rattle.keycard_rules.specs.Note.{Note}
use Rattle.hotel_nights.specs.declared.stay.Stay.{Stay}
use Rattle.hotel_nights.specs.declared.stay.StayState.{StayState}
use Rattle.hotel_nights.specs.declared.stay.StayState.TheVariants as state
use Rattle.hotel_model.specs.declared.rows.RoomRow.{RoomRow}
use Rattle.hotel_model.specs.declared.rows.CodeRow.{CodeRow}
use Rattle.hotel_model.specs.declared.rows.FitRow.{FitRow}
use Rattle.hotel_model.specs.declared.change.InsideMove.{InsideMove}
use Rattle.hotel_model.specs.declared.change.InsideMove.TheVariants.{Same, Goes, Comes}
use Rattle.hotel_model.specs.declared.change.Change.{Change}
use Rattle.hotel_model.specs.declared.change.Change.TheVariants.{Begin, DayTo, Kind, Room, Reserved, Cancelled}
use Rattle.hotel_model.specs.declared.change.Change.TheVariants.{Issue, Spare, CheckedOut, Refit, Noted}
use Rattle.hotel_model.specs.Stays.{room_of_state}
use Rattle.hotel_model.specs.Refits.{fit_row}
use Rattle.hotel_model.specs.Refinement.Change.{new_row}
use Rattle.sqlite.specs.Order.{Row}
use Rattle.sqlite.specs.State.{State, HasCleanDisk, ExecutesInside, KeepsCommit, Survives}
use Rattle.sqlite.specs.Held as held
use Rattle.sqlite.specs.Held.{Held}
use Rattle.sqlite_trees.specs.declared.store.Store.{Ghosts}
use Rattle.sqlite.specs.declared.error.Error.{Error}
use Rattle.sqlite.specs.declared.error.Error.TheVariants.{SqliteFailure}
use Rattle.sqlite.specs.declared.error.ErrorCode.TheVariants.{TransactionState}
use Rattle.hotel_model.specs.Rows.{Rows}
use Rattle.hotel_statements.specs.declared.look_ups.RoomCounts.{RoomCounts}
use Rattle.hotel_statements.specs.declared.upgrade.TheConstants.{VERSION}
use Rattle.hotel_statements.specs.declared.version.Layout.{Layout}
use Rattle.hotel_statements.specs.declared.version.Layout.TheVariants.{Eight, Nine}
use Rattle.hotel_statements.specs.declared.version.TheConstants.{INDEXES}
use Rattle.hotel_statements.specs.Texts as text
use Rattle.hotel_statements.specs.Values.{int, maybe_int}
use Rattle.hotel_statements.specs.Columns.{bit_of, state_number, kind_written, room_written, stay_written, code_written}
use Rattle.hotel_statements.specs.Columns.{card_written, inside_written, note_written, fit_written}
use Rattle.hotel_statements.specs.Steps.{MakesRows}

-- its text, and the values of its parameters
abbrev pub Statement : Type 0
Statement = List ℕ × Row

-- ---- one statement for each row

abbrev pub sets_day : ℕ → Statement
sets_day day = (text.update_day, int 1 ∷ int day ∷ [])

-- the version of the tables
abbrev pub sets_version : Statement
sets_version = (text.update_version, int 1 ∷ int VERSION ∷ [])

-- the row of meta, with no day
abbrev pub adds_meta : Statement
adds_meta = (text.insert_meta, [])

abbrev pub adds_kind : List ℕ → Statement
adds_kind kind = (text.insert_kind, kind_written kind)

abbrev pub adds_room : RoomRow → Statement
adds_room row = (text.insert_room, room_written (row.room, row))

abbrev pub adds_code : ℕ → CodeRow → Statement
adds_code code at = (text.insert_code, code_written (code, at))

abbrev pub adds_stay : Stay → Statement
adds_stay stay = (text.insert_stay, stay_written (stay.party, stay))

abbrev pub adds_card : Card → Statement
adds_card card = (text.insert_card, card_written (card.number, card))

-- a note of this number among all of its room
abbrev pub adds_note : Note → ℕ → Statement
adds_note note number = (text.insert_note, note_written ((note.room, number), note))

abbrev pub adds_fit : FitRow → Statement
adds_fit fit = (text.insert_fit, fit_written ((fit.room, fit.fit), fit))

-- the fit that the room began with
abbrev pub adds_first_fit : ℕ → Statement
adds_first_fit room = adds_fit (fit_row room 1 0 0)

abbrev pub adds_inside : ℕ → ℕ → Statement
adds_inside room card = (text.insert_inside, inside_written (room, card))

abbrev pub removes_inside : ℕ → ℕ → Statement
removes_inside room card = (text.delete_inside, inside_written (room, card))

abbrev pub removes_insides : ℕ → Statement
removes_insides room = (text.delete_insides, int room ∷ [])

-- how many codes the room has, and its party
abbrev pub sets_issued : ℕ → ℕ → ℕ → Statement
sets_issued room codes party = (text.update_issued, int room ∷ int codes ∷ int party ∷ [])

abbrev pub frees_room : ℕ → Statement
frees_room room = (text.update_party, int room ∷ [])

-- the place of the room's lock, whether it is secured, and how many notes were taken
abbrev pub sets_noted : ℕ → ℕ → Bool → ℕ → Statement
sets_noted room lock_place secured notes =
    (text.update_noted, int room ∷ int lock_place ∷ int (bit_of secured) ∷ int notes ∷ [])

-- the place of the room's new lock, and how many codes the room has
abbrev pub sets_refitted : ℕ → ℕ → ℕ → Statement
sets_refitted room lock_place codes = (text.update_refitted, int room ∷ int lock_place ∷ int codes ∷ [])

abbrev pub sets_state : ℕ → StayState → Statement
sets_state party state =
    (text.update_state, int party ∷ int (state_number state) ∷ maybe_int (room_of_state state) ∷ [])

-- ---- several, in the order in which they run

abbrev pub leaves_room : Option ℕ → List Statement
leaves_room None = []
leaves_room (Some room) = frees_room room ∷ []

abbrev pub gives_code : Option ℕ → ℕ → CodeRow → List Statement
gives_code leaves code at = leaves_room leaves ++ adds_code code at ∷ []

abbrev pub gives_card : Card → ℕ → ℕ → List Statement
gives_card card room codes =
    sets_issued room codes card.party ∷ adds_card card ∷ sets_state card.party (state.InHouse room) ∷ []

-- the room had so many codes
abbrev pub issues_card : Card → ℕ → Option ℕ → ℕ → List Statement
issues_card card room leaves codes =
    gives_code leaves card.link.new_code (record { room = room; place = codes }) ++ gives_card card room (codes + 1)

abbrev pub opens_room : ℕ → List ℕ → ℕ → List Statement
opens_room room kind code =
    adds_room (new_row room kind) ∷ adds_code code (record { room = room; place = 0 })
    ∷ adds_first_fit room ∷ []

abbrev pub ends_stay : ℕ → ℕ → List Statement
ends_stay party room = sets_state party state.Done ∷ frees_room room ∷ []

-- the room had so many codes
abbrev pub replaces_lock : ℕ → ℕ → ℕ → List Statement
replaces_lock room code codes = adds_code code (record { room = room; place = codes })
    ∷ sets_refitted room codes (codes + 1) ∷ removes_insides room ∷ []

-- the room had so many codes and notes
abbrev pub refits_room : ℕ → ℕ → ℕ → ℕ → ℕ → List Statement
refits_room room code fit codes notes = replaces_lock room code codes ++ adds_fit (fit_row room fit codes notes) ∷ []

abbrev pub gives_note : Note → ℕ → ℕ → Bool → List Statement
gives_note note number lock_place secured = adds_note note number ∷ sets_noted note.room lock_place secured number ∷ []

abbrev pub moves_card : InsideMove → ℕ → List Statement
moves_card Same room = []
moves_card (Goes card) room = removes_inside room card ∷ []
moves_card (Comes card) room = adds_inside room card ∷ []

abbrev pub takes_note : Note → ℕ → ℕ → Bool → InsideMove → List Statement
takes_note note number lock_place secured insides = gives_note note number lock_place secured
    ++ moves_card insides note.room

-- those of a change, where this is known of its room
abbrev pub statements_of : Change → RoomCounts → List Statement
statements_of (Begin day) known = sets_day day ∷ []
statements_of (DayTo day) known = sets_day day ∷ []
statements_of (Kind kind) known = adds_kind kind ∷ []
statements_of (Room room kind code) known = opens_room room kind code
statements_of (Reserved stay) known = adds_stay stay ∷ []
statements_of (Cancelled party) known = sets_state party state.Cancelled ∷ []
statements_of (Issue card room leaves) known = issues_card card room leaves known.codes
statements_of (Spare card) known = adds_card card ∷ []
statements_of (CheckedOut party room) known = ends_stay party room
statements_of (Refit room code fit) known = refits_room room code fit known.codes known.notes
statements_of (Noted note lock_place secured insides) known = takes_note note (known.before + note.count) lock_place
    secured insides

abbrev pub makes_table : List ℕ → Statement
makes_table text = (text, [])

-- meta, kinds, rooms and stays
abbrev pub makes_first : List Statement
makes_first = makes_table text.create_meta ∷ makes_table text.create_kind ∷ makes_table text.create_room
    ∷ makes_table text.create_stay ∷ []

-- the text that makes an index of ours, by its place among them
abbrev pub index_text : ℕ → List ℕ
index_text zero = text.create_stay_room
index_text (suc zero) = text.create_card_party
index_text (suc (suc at)) = text.create_stay_arrive

abbrev pub makes_index : ℕ → Statement
makes_index at = makes_table (index_text at)

-- our indexes from one place on, up to another
abbrev pub makes_indexes : ℕ → ℕ → List Statement
makes_indexes first past = drop first (take past (makes_index 0 ∷ makes_index 1 ∷ makes_index 2 ∷ []))

-- what a new desk has beside the tables of the first version: the fits and the indexes
abbrev pub makes_new : List Statement
makes_new = makes_table text.create_fit ∷ makes_indexes 0 INDEXES

-- insides and notes, and these
abbrev pub makes_of_locks : List Statement
makes_of_locks = makes_table text.create_inside ∷ makes_table text.create_note ∷ makes_new

-- codes and cards, and these
abbrev pub makes_last : List Statement
makes_last = makes_table text.create_code ∷ makes_table text.create_card ∷ makes_of_locks

-- those that make a desk of the second version of one of the first, whose rooms are these
abbrev pub makes_second : List ℕ → List Statement
makes_second rooms = makes_new ++ (sets_version ∷ map adds_first_fit rooms)

-- those that make what is missing of a desk that is laid out so, whose rooms are these
abbrev pub completes : Layout → List ℕ → List Statement
completes Eight rooms = makes_second rooms
completes (Nine count) rooms = makes_indexes count INDEXES

-- ---- what comes of them

module _ {S : Type 0} (g : Ghosts S) where
  -- A statement of a transaction answers as SQLite says; in one that a failure ended it isn't run.
  abbrev pub RunsOne : Statement → Held S → Held S → Result ℕ Error → Type 0
  RunsOne s old new result =
      (IsTrue old.in_transaction × ExecutesInside 0 s.0 s.1 (held.state g old) (held.state g new) result)
      ⊎ ((old.in_transaction ≡ false) × (result ≡ Err (SqliteFailure TransactionState)) × (new ≡ old))

  -- The statements run in turn, up to the first that fails; its error is the answer.
  abbrev pub RunsInTurn : List Statement → Held S → Held S → Result (Unit {0}) Error → Type 0
  RunsInTurn [] old new result = (result ≡ Ok tt) × (new ≡ old)
  RunsInTurn (s ∷ more) old new result =
      ((e : Error) × RunsOne s old new (Err e) × (result ≡ Err e))
      ⊎ ((mid : Held S) × (count : ℕ) × RunsOne s old mid (Ok count) × RunsInTurn more mid new result)

  -- what these statements do, on a disk that returned what was written
  pub record RunsStatements (statements : List Statement) (old new : Held S)
      (result : Result (Unit {0}) Error) : Type 0 where
    pub in_turn : HasCleanDisk (held.state g new) → RunsInTurn statements old new result

  -- These statements are run; where none failed, and the rows fit, the rows are what is made of those before.
  pub record WritesBy (statements : List Statement) (fits : Rows → Type 0) (make : Rows → Rows) (old new : Held S)
      (result : Result (Unit {0}) Error) : Type 0 where
    pub runs : RunsStatements statements old new result
    pub rows : MakesRows fits make (held.state g old) (held.state g new) result

  -- These statements are run; where none failed, this is so of the states before and after. Nothing is committed, and a
  -- crash leaves nothing new.
  pub record MakesBy (statements : List Statement) (Made : State → State → Type 0) (old new : Held S)
      (result : Result (Unit {0}) Error) : Type 0 where
    pub runs : RunsStatements statements old new result
    pub made : HasCleanDisk (held.state g new) → OnOk result (Made (held.state g old) (held.state g new))
    pub kept : HasCleanDisk (held.state g new) → KeepsCommit (held.state g old) (held.state g new)
    pub survives : Survives (held.state g old) (held.state g new) (λ _. ⊥)
