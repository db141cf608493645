-- The lines of the lists, and how a sink of lines and a look-up of a room end.
use Rattle.std.specs.Prelude.{ℕ, ◌≡◌, ◌⊎◌, Bool, true, false, List, [], ◌∷◌, ◌++◌, codes, if◌then◌else◌, Option, Some}
use Rattle.std.specs.Prelude.{None, Result, Ok, Err}
use Rattle.std.specs.Fmt.{decimal}
use Rattle.std.specs.Io.KnownBytes.{Keeps}
use Rattle.keycard_rules.specs.{declared.kept.Kept.Ghosts as KeptOf, declared.issued.LookFault.LookFault}
use Rattle.keycard_rules.specs.{Leaves.Leaves, Calls.LastCallFailed, Calls.NoCallFailed, Calls.Passes, Calls.Told}
use Rattle.keycard_rules.specs.Calls.{all_answer}
use Rattle.keycard_rules.specs.{Numerals.code_text, declared.card.Card.Card}
use Rattle.keycard_rules.specs.declared.issued.LookFault.TheVariants as look
use Rattle.hotel_nights.specs.{Days.day_text, Moments.Moment, Moments.moment_text}
use Rattle.hotel_nights.specs.{declared.stay.Stay.Stay}
use Rattle.hotel_model.specs.{declared.rows.RoomRow.RoomRow, declared.list_rows.HouseRow.HouseRow}
use Rattle.hotel_model.specs.{declared.list_rows.ChainRow.ChainRow}
use Rattle.hotel_model.specs.{declared.list_rows.BehindRow.BehindRow, declared.list_rows.CodeState.CodeState}
use Rattle.hotel_model.specs.{declared.list_rows.StatusRow.StatusRow, declared.list_rows.InsideRow.InsideRow}
use Rattle.hotel_model.specs.{declared.list_rows.FreeRow.FreeRow}
use Rattle.hotel_books.specs.declared.books.walks.WalkFault.{WalkFault}
use Rattle.hotel_model.specs.declared.list_rows.CodeState.TheVariants as state
use Rattle.hotel_books.specs.declared.books.walks.WalkFault.TheVariants as walk
use Rattle.hotel_streams.specs.Bytes.{AppendsPrefix}
use Rattle.hotel_lock.specs.Gathered.{line_of}
use Rattle.hotel_lists.specs.declared.fault.ListFault.{ListFault}
use Rattle.hotel_model.specs.declared.list_rows.CardRow.{CardRow}
use Rattle.hotel_model.specs.declared.list_rows.LockRow.{LockRow}
use Rattle.hotel_lists.specs.declared.fault.ListFault.TheVariants as fault

-- a booked stay
abbrev pub arrival_line : Stay → List ℕ
arrival_line stay =
    line_of (decimal stay.party ∷ stay.guest ∷ stay.kind ∷ day_text stay.arrive ∷ day_text stay.depart ∷ [])

abbrev pub yes_or_no : Bool → List ℕ
yes_or_no true = codes "yes"
yes_or_no false = codes "no"

-- a room with its party
abbrev pub house_line : HouseRow → List ℕ
house_line row = line_of (decimal row.room ∷ decimal row.party ∷ row.guest ∷ row.kind ∷ day_text row.depart
    ∷ yes_or_no row.secured ∷ [])

abbrev pub state_text : CodeState → List ℕ
state_text state.Passed = codes "passed"
state_text state.Held = codes "held"
state_text state.Awaited = codes "awaited"

-- a code of a room
abbrev pub chain_line : ChainRow → List ℕ
chain_line row = line_of (decimal row.place ∷ code_text row.code ∷ state_text row.state ∷ [])

-- a room that is left behind
abbrev pub behind_line : BehindRow → List ℕ
behind_line row = line_of (decimal row.room ∷ code_text row.held ∷ code_text row.current ∷ decimal row.awaited ∷ [])

-- the business day
abbrev pub day_line : ℕ → List ℕ
day_line day = line_of (day_text day ∷ [])

-- a party's number, or nothing where there is no party
abbrev pub party_field : Option ℕ → List ℕ
party_field None = []
party_field (Some party) = decimal party

-- a room with its registered party, if any
abbrev pub status_line : StatusRow → List ℕ
status_line row = line_of (decimal row.room ∷ row.kind ∷ party_field row.party ∷ yes_or_no row.secured
    ∷ decimal row.awaited ∷ [])

-- a card inside a room
abbrev pub inside_line : InsideRow → List ℕ
inside_line row = line_of (decimal row.room ∷ decimal row.card ∷ decimal row.party ∷ [])

-- a kind with its free rooms
abbrev pub free_line : FreeRow → List ℕ
free_line row = line_of (row.kind ∷ decimal row.rooms ∷ decimal row.free ∷ [])

-- a card of a party
abbrev pub given_line : Card → List ℕ
given_line card = line_of (decimal card.number ∷ code_text card.link.old_code ∷ code_text card.link.new_code ∷ [])

-- a card with its party and guest
abbrev pub card_line : CardRow → List ℕ
card_line row = line_of (decimal row.card.number ∷ decimal row.card.party ∷ row.guest
    ∷ code_text row.card.link.old_code ∷ code_text row.card.link.new_code ∷ [])

-- a moment, or nothing where there is none
abbrev pub moment_field : Option Moment → List ℕ
moment_field None = []
moment_field (Some at) = moment_text at

-- a room's present lock
abbrev pub lock_line : LockRow → List ℕ
lock_line row = line_of (decimal row.room ∷ decimal row.fit ∷ decimal row.count ∷ moment_field row.at ∷ [])

-- the first line of each list; bookings have that of arrivals
abbrev pub arrivals_header : List ℕ
arrivals_header = codes "party,guest,kind,arrive,depart\n"

abbrev pub in_house_header : List ℕ
in_house_header = codes "room,party,guest,kind,depart,secured\n"

abbrev pub chain_header : List ℕ
chain_header = codes "place,code,state\n"

abbrev pub left_behind_header : List ℕ
left_behind_header = codes "room,held,current,awaited\n"

abbrev pub day_header : List ℕ
day_header = codes "day\n"

abbrev pub status_header : List ℕ
status_header = codes "room,kind,party,secured,awaited\n"

abbrev pub inside_header : List ℕ
inside_header = codes "room,card,party\n"

abbrev pub free_header : List ℕ
free_header = codes "kind,rooms,free\n"

abbrev pub given_header : List ℕ
given_header = codes "card,old,new\n"

abbrev pub card_header : List ℕ
card_header = codes "card,party,guest,old,new\n"

abbrev pub locks_header : List ℕ
locks_header = codes "room,fit,count,at\n"

-- A writer stopped at a line: it took a prefix of it where the write failed, and nothing of it otherwise.
abbrev pub StopsAtLine : Bool → Option (List ℕ) → Option (List ℕ) → List ℕ → Type 0
StopsAtLine true old new line = AppendsPrefix old new line
StopsAtLine false old new line = Keeps old new

-- how a list ended, where its walk ended so, and the sink stopped for a failed write or not
abbrev pub list_result : Result (Unit {0}) WalkFault → Bool → Result (Unit {0}) ListFault
list_result (Ok done) write_failed = Ok tt
list_result (Err walk.Memory) write_failed = Err fault.Memory
list_result (Err walk.Store) write_failed = Err fault.Store
list_result (Err walk.Stopped) write_failed = if write_failed then Err fault.Write else Err fault.Memory

-- What the calls of a list reported that failed for this cause: the last one this. The list's own
-- memory may have run out, which no call reported.
abbrev pub ListFailed : LookFault → Told → Type 0
ListFailed look.Memory told = (all_answer told ≡ true) ⊎ LastCallFailed look.Memory told
ListFailed look.Store told = LastCallFailed look.Store told

-- What the calls of a list reported that ended so. One that was written in full, or whose room isn't there, made a call
-- or more.
abbrev pub ListTold : Result (Unit {0}) ListFault → Told → Type 0
ListTold (Ok done) told = NoCallFailed told
ListTold (Err fault.NoRoom) told = NoCallFailed told
ListTold (Err fault.Memory) told = ListFailed look.Memory told
ListTold (Err fault.Store) told = ListFailed look.Store told
ListTold (Err fault.Write) told = all_answer told ≡ true

-- A list made these calls of the books, which reported what its end says, and left what was there; a stop leaves
-- nothing new.
pub record LooksAt {B : Type 0} (K : KeptOf B) (old new : B) (result : Result (Unit {0}) ListFault) : Type 0 where
  pub kept : K.is_clean new → K.is_kept old new
  pub stop : K.leaves_no_more old new
  pub told : Told
  pub calls : Passes (Leaves K) old told new
  pub tells : ListTold result told

-- no row and no header can have been written
abbrev pub is_before_rows : Result (Unit {0}) ListFault → Bool
is_before_rows (Ok done) = false
is_before_rows (Err fault.NoRoom) = true
is_before_rows (Err fault.Memory) = true
is_before_rows (Err fault.Store) = true
is_before_rows (Err fault.Write) = false

-- the room is there, or it isn't and the answer is NoRoom, unless memory or the store failed
abbrev pub FindsRoom : Option RoomRow → Result (Unit {0}) ListFault → Type 0
FindsRoom (Some row) result = (result ≡ Err fault.NoRoom → ⊥) × (result ≡ Err fault.Write → ⊥)
FindsRoom None result = is_before_rows result ≡ true
