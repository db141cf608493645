-- What a look-up promises.
use Rattle.std.specs.Prelude.{◌≡◌, ◌≢◌, ◌⊎◌, ◌==◌, if◌then◌else◌, ℕ, false, length, List, [], ◌∷◌, map, Option, Some}
use Rattle.std.specs.Prelude.{None}
use Rattle.std.specs.Prelude.{Result, IfOk, IfErr, OnOk, IsTrue, All}
use Rattle.sqlite.specs.Order.{Row}
use Rattle.sqlite.specs.Query.{Query, IsAnswer}
use Rattle.sqlite.specs.Program.{overlay}
use Rattle.sqlite.specs.Tree.{Trees}
use Rattle.sqlite.specs.Schema.{Schema}
use Rattle.sqlite.specs.Command.TheVariants.{Select}
use Rattle.sqlite.specs.Listing.{understood, reads_listing}
use Rattle.sqlite.specs.Given.{IsPlain}
use Rattle.sqlite.specs.State.{State, HasCleanDisk, IsUnchanged, FailsToQuery, Survives}
use Rattle.sqlite.specs.declared.error.ErrorCode.TheVariants.{OutOfMemory}
use Rattle.sqlite.specs.declared.error.Error.{Error}
use Rattle.sqlite.specs.declared.error.Error.TheVariants.{SqliteFailure}
use Rattle.sqlite_resolve.specs.declared.compiled.Compiled.{Compiled}
use Rattle.sqlite_resolve.specs.declared.error.CompileError.{CompileError}
use Rattle.keycard_rules.specs.declared.issued.LookFault.{LookFault}
use Rattle.keycard_rules.specs.declared.issued.LookFault.TheVariants as why
use Rattle.hotel_model.specs.declared.rows.NextNumbers.{NextNumbers}
use Rattle.hotel_model.specs.declared.rows.FitRow.{FitRow}
use Rattle.hotel_model.specs.declared.rows.RoomRow.{RoomRow}
use Rattle.hotel_model.specs.Refinement.Lookups.{number_after}
use Rattle.hotel_model.specs.Rows.{Rows}
use Rattle.hotel_statements.specs.declared.look_ups.RoomCounts.{RoomCounts}
use Rattle.hotel_statements.specs.Schema.{desk_schema}
use Rattle.hotel_statements.specs.Tables.{rows_in}
use Rattle.hotel_statements.specs.Books.{IsKept, IsBooks, KeepsRows}
use Rattle.std.specs.Prelude.{Ok, Err}

-- why a look-up has no answer, where the store answered this: memory ran out, or the store failed
abbrev pub fault_of : Error → LookFault
fault_of (SqliteFailure OutOfMemory) = why.Memory
fault_of _ = why.Store

-- the text is understood as this query
abbrev pub IsQuery : Query → Result Compiled CompileError → Type 0
IsQuery q (Ok c) = (names : List (List ℕ)) × (c.command ≡ Select (record { lets = []; body = q }) names)
IsQuery q (Err e) = ⊥

-- A statement that a database with these tables understands as a query of them alone.
pub record AsksOf (schema : Schema) (text : List ℕ) (q : Query) : Type 0 where
  pub query : IsQuery q (understood schema text)
  pub plain : IsPlain (understood schema text)
  pub listing : reads_listing schema text ≡ false

-- one that a desk understands so
abbrev pub Asks : List ℕ → Query → Type 0
Asks = AsksOf desk_schema

-- the first row of an answer, or none where it has none
abbrev pub AnswersFirst : {A : Type 0} → (Row → A) → Query → Row → Trees → Option A → Type 0
AnswersFirst of q params db None = IsAnswer q (overlay db []) params []
AnswersFirst of q params db (Some a) =
    (row : Row) × (rows : List Row) × IsAnswer q (overlay db []) params (row ∷ rows) × (a ≡ of row)

-- all rows of an answer
abbrev pub AnswersAll : {A : Type 0} → (Row → A) → Query → Row → Trees → List A → Type 0
AnswersAll of q params db all = (rows : List Row) × IsAnswer q (overlay db []) params rows × (all ≡ map of rows)

-- What a statement finds that a desk understands, whatever it is: the first row, or all rows.
abbrev pub FindsFirst : {A : Type 0} → (Row → A) → List ℕ → Row → State → Result (Option A) LookFault → Type 0
FindsFirst of text params old result = (q : Query) → Asks text q → IfOk result (AnswersFirst of q params old.now.trees)

abbrev pub FindsAll : {A R : Type 0} → (R → List A) → (Row → A) → List ℕ → Row → State → Result R LookFault → Type 0
FindsAll said of text params old result =
    (q : Query) → Asks text q → IfOk result (λ all. AnswersAll of q params old.now.trees (said all))

-- A crash at the second state leaves nothing that one at the first couldn't have left.
abbrev pub LeavesNoMore : State → State → Type 0
LeavesNoMore old new = Survives old new (λ _. IsKept old → ⊥)

-- an answer of the statement has a row that can't be read
abbrev pub ShowsUnread : Schema → (Row → Type 0) → List ℕ → Row → Trees → Type 0
ShowsUnread schema IsReadable text params db =
    (q : Query) × AsksOf schema text q × (rows : List Row) × IsAnswer q (overlay db []) params rows
    × ¬ All IsReadable rows

-- Why a statement over these tables has no answer, but for lack of memory: sqlite gives an error of it, or one of
-- its rows can't be read.
abbrev pub FailsIn : Schema → (Row → Type 0) → List ℕ → Row → State → State → Type 0
FailsIn schema IsReadable text params old new =
    ((e : Error) × (fault_of e ≡ why.Store) × FailsToQuery text params old new e)
    ⊎ (IsKept old × ShowsUnread schema IsReadable text params old.now.trees)

-- of one that a desk understands
abbrev pub FailsAt : (Row → Type 0) → List ℕ → Row → State → State → Type 0
FailsAt = FailsIn desk_schema

-- Memory may run out at any time; any other failure has this cause.
abbrev pub HasCause : {R : Type 0} → (State → State → Type 0) → State → State → Result R LookFault → Type 0
HasCause Fails old new result = HasCleanDisk new → IfErr result (λ fault. fault ≢ why.Memory → Fails old new)

-- What one statement that is read promises, of a connection from old to new: where the test holds at its end, this was
-- found. It changes no row, and a crash in it leaves nothing new.
pub record LooksFor {R : Type 0} (Fails : State → State → Type 0) (Found : Type 0) (old new : State)
    (result : Result R LookFault) : Type 0 where
  pub books : IsBooks new
  pub keeps : KeepsRows old new
  pub found : IsKept new → Found
  pub unchanged : HasCleanDisk new → OnOk result (IsUnchanged old new)
  pub cause : HasCause Fails old new result
  pub crash : LeavesNoMore old new

-- A look-up of the books, of a connection from old to new: where the test holds at its end, its answer says what is
-- wanted of the rows. It changes no row, and a crash in it leaves nothing new.
pub record LooksIf {A R : Type 0} (was : Type 0) (said : R → A) (wanted : Rows → A) (old new : State)
    (result : Result R LookFault) : Type 0 where
  pub books : IsBooks new
  pub keeps : KeepsRows old new
  pub found : IsKept new → IfOk result (λ a. said a ≡ wanted (rows_in old.now.trees))
  pub open_on : was → HasCleanDisk new → OnOk result (IsTrue new.is_open)
  pub crash : LeavesNoMore old new

-- A look-up that may ask nothing: only a connection that was open is open.
abbrev pub MayLook : {A R : Type 0} → (R → A) → (Rows → A) → State → State → Result R LookFault → Type 0
MayLook said wanted old new result = LooksIf (IsKept old) said wanted old new result

-- All that a look-up which is a statement promises, and why it fails: where it is answered over a disk that returned
-- what was written, it left the connection unchanged.
pub record Selects {A R : Type 0} (Fails : State → State → Type 0) (said : R → A) (wanted : Rows → A) (old new : State)
    (result : Result R LookFault) : Type 0 where
  pub books : IsBooks new
  pub keeps : KeepsRows old new
  pub found : IsKept new → IfOk result (λ a. said a ≡ wanted (rows_in old.now.trees))
  pub open_on : Unit {0} → HasCleanDisk new → OnOk result (IsTrue new.is_open)
  pub unchanged : Unit {0} → HasCleanDisk new → OnOk result (IsUnchanged old new)
  pub cause : HasCause Fails old new result
  pub crash : LeavesNoMore old new

-- A look-up in the tables as they stand, which promises as much.
pub record SelectsIn {R : Type 0} (Fails : State → State → Type 0) (wanted : Trees → R) (old new : State)
    (result : Result R LookFault) : Type 0 where
  pub books : IsBooks new
  pub keeps : KeepsRows old new
  pub found : IsKept new → IfOk result (λ a. a ≡ wanted old.now.trees)
  pub open_on : HasCleanDisk new → OnOk result (IsTrue new.is_open)
  pub unchanged : HasCleanDisk new → OnOk result (IsUnchanged old new)
  pub cause : HasCause Fails old new result
  pub crash : LeavesNoMore old new

-- the first of some fits that has this number
abbrev pub numbered_fit : List FitRow → ℕ → Option FitRow
numbered_fit [] number = None
numbered_fit (f ∷ fs) number = if f.fit == number then Some f else numbered_fit fs number

-- the numbers after the last party and the last card
abbrev pub next_numbers_of : Rows → NextNumbers
next_numbers_of rows = record { party = number_after (length rows.stays); card = number_after (length rows.cards) }

-- what a room's row tells the statements of a change
abbrev pub known_by_room : RoomRow → RoomCounts
known_by_room row = record { codes = row.codes; notes = row.notes; before = 0 }
