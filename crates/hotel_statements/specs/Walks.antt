-- What the walks promise over a connection, and what the rows say that their statements show.
use Rattle.std.specs.Prelude.{◌≡◌, ◌⊎◌, ◌≤◌, ◌-◌, ◌==◌, ℕ, List, [], length, Option, Some, None, Result, Ok, Err}
use Rattle.std.specs.Prelude.{IsTrue, if◌then◌else◌, option_map}
use Rattle.std.specs.Map.{values_of}
use Rattle.sqlite.specs.Order.{Row, column}
use Rattle.sqlite.specs.Query.{Query, IsAnswer}
use Rattle.sqlite.specs.Program.{overlay}
use Rattle.sqlite.specs.Tree.{Trees}
use Rattle.sqlite.specs.State.{State, HasCleanDisk}
use Rattle.keycard_rules.specs.declared.issued.LookFault.TheVariants as fault
use Rattle.keycard_rules.specs.Note.{Note}
use Rattle.hotel_nights.specs.Moments.{Moment}
use Rattle.hotel_model.specs.declared.rows.FitRow.{FitRow}
use Rattle.hotel_books.specs.declared.books.walks.WalkFault.{WalkFault}
use Rattle.hotel_books.specs.declared.books.walks.WalkFault.TheVariants as why
use Rattle.hotel_model.specs.declared.list_rows.HouseRow.{HouseRow}
use Rattle.hotel_model.specs.declared.list_rows.ChainRow.{ChainRow}
use Rattle.hotel_model.specs.declared.list_rows.BehindRow.{BehindRow}
use Rattle.hotel_model.specs.declared.list_rows.StatusRow.{StatusRow}
use Rattle.hotel_model.specs.declared.list_rows.InsideRow.{InsideRow}
use Rattle.hotel_model.specs.declared.list_rows.FreeRow.{FreeRow}
use Rattle.hotel_model.specs.declared.list_rows.LockRow.{LockRow}
use Rattle.hotel_books.specs.Books.Walks.{Hands, failure_of}
use Rattle.hotel_books.specs.{KindRooms.rooms_in, NightIndex.CountsNights, FreeRows.free_row_by}
use Rattle.hotel_model.specs.Rows.{Rows, rooms_of_kind}
use Rattle.hotel_model.specs.Refinement.ListsOnRows.{is_count, state_at}
use Rattle.hotel_statements.specs.declared.walk.TheConstants.{MOST_ROWS}
use Rattle.hotel_statements.specs.Values.{number_of, option_of, text_of}
use Rattle.hotel_rows.specs.Joined.{with_count, fit_of_number}
use Rattle.hotel_statements.specs.Columns.{note_row_of}
use Rattle.hotel_statements.specs.Tables.{rows_in}
use Rattle.hotel_statements.specs.Books.{IsKept, IsBooks, KeepsRows}
use Rattle.hotel_statements.specs.LookUps.{Asks, AnswersAll, FailsAt, LeavesNoMore}

-- A text that a desk understands as a query, each answer to which says these rows in order.
abbrev pub SaysRows : {A : Type 0} → (Row → A) → List ℕ → Row → State → List A → Type 0
SaysRows {A} of text params s rows =
    (q : Query) × Asks text q × (IsKept s → (all : List A) → AnswersAll of q params s.now.trees all → all ≡ rows)

-- What came of one row: it was taken, or the sink stopped at it, or it was not handed over.
abbrev pub HandsOne : {S R : Type 0} → (S → R → S → Type 0) → (S → R → S → Type 0) → R → S → S
    → Result (Unit {0}) WalkFault → Type 0
HandsOne after after_stop row sink end (Ok done) = after sink row end
HandsOne after after_stop row sink end (Err why.Stopped) = after_stop sink row end
HandsOne after after_stop row sink end (Err why.Memory) = end ≡ sink
HandsOne after after_stop row sink end (Err why.Store) = end ≡ sink

-- an answer of the statement has at least so many rows as a walk counts
abbrev pub ShowsMany : List ℕ → Row → Trees → Type 0
ShowsMany text params db =
    (q : Query) × Asks text q × (rows : List Row) × IsAnswer q (overlay db []) params rows × (MOST_ROWS ≤ length rows)

-- why a walk ends early, but for lack of memory and a sink that stops
abbrev pub WalkFails : (Row → Type 0) → List ℕ → Row → State → State → Type 0
WalkFails IsReadable text params old new =
    FailsAt IsReadable text params old new ⊎ (IsKept old × ShowsMany text params old.now.trees)

-- A walk over these rows, of a connection from old to new and a sink from its meaning to that at the end: it hands over
-- some rows, which are these where the disk returned what was written, also where a failure ended it. It changes no
-- row, and a crash in it leaves nothing new.
pub record WalksRows {S R : Type 0} (Fails : State → State → Type 0) (after after_stop : S → R → S → Type 0)
    (rows : List R) (old new : State) (sink end : S) (result : Result (Unit {0}) WalkFault) : Type 0 where
  pub books : IsBooks new
  pub keeps : KeepsRows old new
  pub open_on : HasCleanDisk new → failure_of result ≡ None → IsTrue new.is_open
  pub cause : HasCleanDisk new → failure_of result ≡ Some fault.Store → Fails old new
  pub hands : (handed : List R) × Hands after after_stop handed sink end result × (HasCleanDisk new → handed ≡ rows)
  pub crash : LeavesNoMore old new

-- a walk over a list of the rows that the tables have
abbrev pub WalksList : {S R : Type 0} → (State → State → Type 0) → (S → R → S → Type 0) → (S → R → S → Type 0)
    → (Rows → List R) → State → State → S → S → Result (Unit {0}) WalkFault → Type 0
WalksList Fails after after_stop list old new sink end result =
    WalksRows Fails after after_stop (list (rows_in old.now.trees)) old new sink end result

-- Counts that stand beside the tables are those of the rows: the rooms of each kind, and the stays that take a night.
pub record AreCounted (kinds : List (List ℕ × ℕ)) (nights : List ((List ℕ × ℕ) × List ℕ)) (rows : Rows) : Type 0 where
  pub rooms : (kind : List ℕ) → rooms_in kinds kind ≡ rooms_of_kind rows.rooms kind
  pub stays : CountsNights nights (values_of rows.stays)

-- ---- what rows of columns say

abbrev pub house_row_of : Row → HouseRow
house_row_of v = record {
  room = number_of (column v 0);
  party = number_of (column v 1);
  guest = text_of (column v 2);
  kind = text_of (column v 3);
  depart = number_of (column v 4);
  secured = number_of (column v 5) == 1;
}

-- a place and its code, where the lock stands at a place
abbrev pub chain_row_of : ℕ → Row → ChainRow
chain_row_of lock_place v = record {
  place = number_of (column v 0);
  code = number_of
      (column v 1);
  state = state_at lock_place (number_of (column v 0));
}

-- a room with the code that its lock holds, the last one, the place of the lock, and how many codes it has
abbrev pub behind_row_of : Row → BehindRow
behind_row_of v = record {
  room = number_of (column v 0);
  held = number_of (column v 1);
  current = number_of (column v 2);
  awaited = number_of (column v 4) - number_of (column v 3) - 1;
}

-- a room with its party, and with the place of the lock and how many codes it has
abbrev pub status_row_of : Row → StatusRow
status_row_of v = record {
  room = number_of (column v 0);
  kind = text_of (column v 1);
  party = option_of (column v 2);
  secured = number_of (column v 5) == 1;
  awaited = number_of (column v 4) - number_of (column v 3) - 1;
}

-- a card inside a room, and its party
abbrev pub inside_row_of : Row → InsideRow
inside_row_of v =
    record { room = number_of (column v 0); card = number_of (column v 1); party = number_of (column v 2) }

-- when a note was taken, or nothing where there is no note
abbrev pub moment_in : Row → Option Moment
moment_in v = option_map (λ day. (day, number_of (column v 5))) (option_of (column v 4))

-- the last fit of a room with the notes of the room, those before the fit, and the moment of the last note
abbrev pub lock_row_of : Row → LockRow
lock_row_of v = record {
  room = number_of (column v 0);
  fit = number_of (column v 1);
  count = number_of (column v 2) - number_of (column v 3);
  at = if is_count (number_of (column v 2) - number_of (column v 3)) then moment_in v else None;
}

-- a kind with what is free of it by these counts, on a business day, for so many nights from a day on
abbrev pub free_row_of : List (List ℕ × ℕ) → List ((List ℕ × ℕ) × List ℕ) → Option ℕ → ℕ → ℕ → Row → FreeRow
free_row_of kinds nights today d n v = free_row_by kinds nights today d n (text_of (column v 0))

-- a note with its fit and count, in a room that has these fits
abbrev pub note_under : List FitRow → Row → Note
note_under fits v = with_count (fit_of_number fits (number_of (column v 1))) (number_of (column v 1)) (note_row_of v)
