-- What a change of the books needs beside its rows, to be made over tables, and what making it says.
use Rattle.std.specs.Prelude.{◌≡◌, ◌+◌, ◌-◌, ◌^◌, Bool, true, false, Option, Some, None, Result, OnOk, OnErr, IsTrue}
use Rattle.std.specs.Prelude.{if◌then◌else◌, nat_lt, option_map}
use Rattle.sqlite.specs.Tree.{Trees}
use Rattle.sqlite.specs.State.{State, HasCleanDisk, Survives}
use Rattle.keycard_rules.specs.declared.issued.LookFault.{LookFault}
use Rattle.hotel_model.specs.declared.rows.FitRow.{FitRow}
use Rattle.hotel_model.specs.declared.change.Change.{Change}
use Rattle.hotel_model.specs.declared.change.Change.TheVariants.{Kind, Room, Issue, Refit, Noted}
use Rattle.hotel_model.specs.Words.{said_of}
use Rattle.hotel_model.specs.Refinement.Lookups.{room_at}
use Rattle.hotel_model.specs.Refinement.Change.{made, codes_of}
use Rattle.hotel_model.specs.Rows.{Rows, has_kind, fit_at}
use Rattle.hotel_statements.specs.Tables.{rows_in}
use Rattle.hotel_statements.specs.Books.{IsBooks, IsKept}
use Rattle.hotel_statements.specs.Steps.{IsMadeOf, IsNewRoom, IsRefit, IsNumbered}
use Rattle.hotel_statements.specs.declared.look_ups.RoomCounts.{RoomCounts}
use Rattle.hotel_statements.specs.LookUps.{known_by_room}

-- what the statements of a change ask of the rows, where this is known of its room
abbrev pub MayMake : Change → RoomCounts → Rows → Type 0
MayMake (Kind kind) known rows = has_kind rows kind ≡ false
MayMake (Room room kind code) known rows = IsNewRoom room rows
MayMake (Issue card room leaves) known rows = codes_of rows room ≡ known.codes
MayMake (Refit room code fit) known rows = IsRefit room fit known.codes known.notes rows
MayMake (Noted note lock_place secured insides) known rows = IsNumbered note (known.before + note.count) rows
MayMake _ known rows = Unit {0}

-- what the row of a fit tells the statements of a change
abbrev pub known_by_fit : FitRow → RoomCounts
known_by_fit fit = record { codes = 0; notes = 0; before = fit.before }

-- what the row of a change's room, or of its note's fit, tells: nothing, where the change adds no code and no note
abbrev pub told_for : Change → Rows → Option RoomCounts
told_for (Issue card room leaves) rows = option_map known_by_room (room_at rows room)
told_for (Refit room code fit) rows = option_map known_by_room (room_at rows room)
told_for (Noted note lock_place secured insides) rows = option_map known_by_fit (fit_at rows note.room note.fit)
told_for _ rows = Some (record { codes = 0; notes = 0; before = 0 })

-- one more code can be counted at the room of a change that adds one, or the number of the note that one adds
abbrev pub can_count : Change → RoomCounts → Bool
can_count (Issue card room leaves) known = nat_lt known.codes (2 ^ 32 - 1)
can_count (Refit room code fit) known = nat_lt known.codes (2 ^ 32 - 1)
can_count (Noted note lock_place secured insides) known = nat_lt (known.before + note.count) (2 ^ 32)
can_count _ known = true

-- what was told, where the change can count on from it
abbrev pub known_after : Change → Option RoomCounts → Option RoomCounts
known_after change o = said_of o None (λ known. if can_count change known then Some known else None)

-- What is known for a change: none, where the row that tells it isn't there, or where what is added can't be counted.
abbrev pub known_for : Change → Rows → Option RoomCounts
known_for change rows = known_after change (told_for change rows)

-- A change, of the books' connection from old to new, which answers: it is made whole or not at all, and a crash leaves
-- what it could leave before, or the change made.
pub record Applies (change : Change) (old new : State) (result : Result (Unit {0}) LookFault) : Type 0 where
  pub books : IsBooks new
  pub was : IsKept new → IsKept old
  pub whole : IsKept new → OnOk result (rows_in new.now.trees ≡ made change (rows_in old.now.trees))
  pub same : IsKept new → OnErr result (new.now ≡ old.now)
  pub open_on : HasCleanDisk new → OnOk result (IsTrue new.is_open)
  pub crash : Survives old new (λ db. IsKept old → IsMadeOf (made change) old.now.trees db)

-- a crash at this moment leaves the tables as they are
abbrev pub LeavesAll : State → Type 0
LeavesAll s = (db : Trees) → s.may_leave db → db ≡ s.now.trees

-- A crash leaves nothing that one couldn't have left before, also where a failure had shut the connection.
abbrev pub LeavesNothing : State → State → Type 0
LeavesNothing old new = Survives old new (λ _. ⊥)

-- A crash in a change or after it leaves what one could leave before, or, where no failure had shut the connection, the
-- change made; and where it was answered and no failure shut the connection, the tables as they are.
pub record LeavesChange (change : Change) (old new : State) : Type 0 where
  pub crash : Survives old new (λ db. IsKept old × IsMadeOf (made change) old.now.trees db)
  pub left : IsKept new → LeavesAll new
