-- Why books over tables answer that the store failed.
use Rattle.std.specs.Prelude.{◌≡◌, ◌⊎◌, true, ℕ, List, Option, Some, Ok, Err}
use Rattle.sqlite_trees.specs.declared.store.Store.{Ghosts}
use Rattle.sqlite.specs.declared.error.Error.{Error}
use Rattle.sqlite.specs.Held.{Held, state}
use Rattle.sqlite.specs.State.{State, HasCleanDisk, IsUnchanged, Survives}
use Rattle.sqlite.specs.Steps.{FailsToCommit}
use Rattle.keycard_rules.specs.declared.issued.LookFault.TheVariants as why
use Rattle.hotel_model.specs.declared.change.Change.{Change}
use Rattle.hotel_model.specs.declared.change.Change.TheVariants.{Cancelled, Issue, CheckedOut, Refit, Noted}
use Rattle.hotel_statements.specs.Tables.{rows_in}
use Rattle.hotel_statements.specs.LookUps.{fault_of, LeavesNoMore}
use Rattle.hotel_statements.specs.declared.look_ups.RoomCounts.{RoomCounts}
use Rattle.hotel_statements.specs.Statements.{Statement, RunsStatements, statements_of}
use Rattle.hotel_statements.specs.Failures.{BareRoomFails}
use Rattle.hotel_statements.specs.Failures.{DayFails, KindFails, RoomFails, FitFails, StayFails, StaysFail, CodeFails}
use Rattle.hotel_statements.specs.Failures.{CodeAtFails, CardFails, InsideFails, IsInsideFails, HasInsideFails}
use Rattle.hotel_statements.specs.Failures.{NoteFails, NumbersFail, ListFails, WalkedList}
use Rattle.hotel_tables.specs.Applied.{known_for}

-- One of the desk's look-ups or walks fails, of a connection from old to new.
pub data LookUpFails (old new : State) : Type 0 where
  of_day : DayFails old new → LookUpFails old new
  of_kind : (kind : List ℕ) → KindFails kind old new → LookUpFails old new
  of_room : (room : ℕ) → RoomFails room old new → LookUpFails old new
  of_fit : (room number : ℕ) → FitFails room number old new → LookUpFails old new
  of_stay : (party : ℕ) → StayFails party old new → LookUpFails old new
  of_stays : (kind : List ℕ) → StaysFail kind old new → LookUpFails old new
  of_code : (code : ℕ) → CodeFails code old new → LookUpFails old new
  of_code_at : (room place : ℕ) → CodeAtFails room place old new → LookUpFails old new
  of_card : (number : ℕ) → CardFails number old new → LookUpFails old new
  of_inside : (room : ℕ) → InsideFails room old new → LookUpFails old new
  of_is_inside : (room number : ℕ) → IsInsideFails room number old new → LookUpFails old new
  of_has_inside : (room : ℕ) → HasInsideFails room old new → LookUpFails old new
  of_note : (room : ℕ) → NoteFails room old new → LookUpFails old new
  of_numbers : NumbersFail old new → LookUpFails old new
  of_list : (list : WalkedList) → ListFails list old new → LookUpFails old new

-- ---- changes

-- the look-up of the stay that a change ends fails
abbrev pub EndedFails : Change → State → State → Type 0
EndedFails (Cancelled party) old new = StayFails party old new
EndedFails (CheckedOut party room) old new = StayFails party old new
EndedFails _ old new = ⊥

-- the look-up of what a change is told fails: of its room's row, or of the row of its note's fit
abbrev pub ToldFails : Change → State → State → Type 0
ToldFails (Issue card room leaves) old new = BareRoomFails room old new
ToldFails (Refit room code fit) old new = BareRoomFails room old new
ToldFails (Noted note lock_place secured insides) old new = FitFails note.room note.fit old new
ToldFails _ old new = ⊥

module _ {S : Type 0} (g : Ghosts S) where
  -- a look-up was answered, and left the connection unchanged
  abbrev pub HasLooked : Held S → Held S → Type 0
  HasLooked old new = IsUnchanged (state g old) (state g new) × LeavesNoMore (state g old) (state g new)

  -- What fails of a call, of a connection from old to new, that begins where it was asked in vain whether it answers,
  -- or once it answered. It is asked where it did not answer when it was last asked.
  abbrev pub OnceReady : (Held S → Held S → Type 0) → Held S → Held S → Type 0
  OnceReady Fails old new =
      DayFails (state g old) (state g new)
      ⊎ ((begins : Held S) × ((begins ≡ old) ⊎ HasLooked old begins) × Fails begins new)

  -- why a look-up or a walk fails, but for lack of memory
  abbrev pub LookFails : Held S → Held S → Type 0
  LookFails = OnceReady (λ a b. LookUpFails (state g a) (state g b))

  -- the stay that a change ends was looked up; nothing was, where it ends none
  abbrev pub AsksEnded : Change → Held S → Held S → Type 0
  AsksEnded (Cancelled party) old new = HasLooked old new
  AsksEnded (CheckedOut party room) old new = HasLooked old new
  AsksEnded _ old new = new ≡ old

  -- what a change is told was looked up; nothing was, where it adds no code and no note
  abbrev pub AsksTold : Change → Option RoomCounts → Held S → Held S → Type 0
  AsksTold (Issue card room leaves) known old new = HasLooked old new
  AsksTold (Refit room code fit) known old new = HasLooked old new
  AsksTold (Noted note lock_place secured insides) known old new = HasLooked old new
  AsksTold _ known old new = (known ≡ Some (record { codes = 0; notes = 0; before = 0 })) × (new ≡ old)

  -- The transaction of these statements fails, of a connection from old to new: one of them answers this error, and a
  -- crash leaves nothing of them; or the commit answers it, and a crash leaves nothing or all.
  pub record FailsToWrite (statements : List Statement) (old new : Held S) (e : Error) : Type 0 where
    pub start : Held S
    pub begun : start ≡ record old { in_transaction = true }
    pub ended : Held S
    pub failed : (RunsStatements g statements start ended (Err e) × Survives (state g ended) (state g new) (λ _. ⊥))
        ⊎ (RunsStatements g statements start ended (Ok tt)
        × Survives (state g ended) (state g new) (λ db. db ≡ (state g ended).now.trees)
        × (HasCleanDisk (state g new) → FailsToCommit (state g ended) (state g new) e))

  -- The transaction of a change fails, after the look-up that it makes first, if it makes one.
  pub record WriteFails (change : Change) (old new : Held S) : Type 0 where
    pub begins : Held S
    pub asked : (begins ≡ old) ⊎ HasLooked old begins
    -- what its statements are told
    pub known : RoomCounts
    pub is_known : known_for change (rows_in (state g old).now.trees) ≡ Some known
    pub error : Error
    pub is_store : fault_of error ≡ why.Store
    pub failed : FailsToWrite (statements_of change known) begins new error

  -- why the statements of a change aren't made, of a connection from old to new, but for lack of memory
  abbrev pub MakingFails : Change → Held S → Held S → Type 0
  MakingFails change old new = ToldFails change (state g old) (state g new) ⊎ WriteFails change old new

  -- why the connection, that answers, doesn't make a change
  abbrev pub ChangingFails : Change → Held S → Held S → Type 0
  ChangingFails change old new = EndedFails change (state g old) (state g new) ⊎ MakingFails change old new

  -- Why a change isn't made, of the books' connection from old to new, but for lack of memory.
  abbrev pub ChangeFails : Change → Held S → Held S → Type 0
  ChangeFails change = OnceReady (ChangingFails change)
