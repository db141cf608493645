-- The values of verbs: each is what its reader makes of a text, or refused by its name.
use Rattle.std.specs.Prelude.{◌≡◌, ℕ, ◌+◌, ◌==◌, ◌&&◌, Bool, true, List, length, take, drop, if◌then◌else◌, Option}
use Rattle.std.specs.Prelude.{Some, Result, Ok, Err, IsOkAnd}
use Rattle.std.specs.List.{position_or_len}
use Rattle.std.specs.Option.{ok_or}
use Rattle.std.specs.Str.{is_utf8}
use Rattle.keycard_rules.specs.Numerals.{number_up_to, read_code}
use Rattle.hotel_nights.specs.{Days.read_day, Guests.is_guest, Kinds.read_kind, Moments.Moment, Moments.read_moment}
use Rattle.hotel_asks.specs.{declared.values.ValueFault.ValueFault, declared.values.ValueFault.TheVariants.Value}
use Rattle.hotel_asks.specs.{declared.values.AskFault.AskFault}
use Rattle.hotel_asks.specs.{declared.values.AskFault.TheVariants.Values, declared.values.AskFault.TheVariants.Memory}
use Rattle.hotel_asks.specs.{declared.values.ValueName.ValueName, declared.values.Lock.Lock}
use Rattle.keycard_rules.specs.Results.{◌>>=◌}
use Rattle.hotel_nights.specs.declared.nights.TheConstants.{MOST_NIGHTS}
use Rattle.keycard_rules.specs.declared.numbers.TheConstants.{LAST_FIT, LAST_NUMBER, LAST_ROOM}
use Rattle.hotel_asks.specs.declared.values.ValueName.TheVariants.{Kind, Nights, Guest, Room, Lock as LockName, Party}
use Rattle.hotel_asks.specs.declared.values.ValueName.TheVariants.{Card, Count, Moment as MomentName}

-- A day, as the value of that name.
abbrev pub day_in : ValueName → List ℕ → Result ℕ ValueFault
day_in name text = ok_or (read_day text) (Value name)

-- A code, as the value of that name.
abbrev pub code_in : ValueName → List ℕ → Result ℕ ValueFault
code_in name text = ok_or (read_code text) (Value name)

abbrev pub kind_in : List ℕ → Result (List ℕ) ValueFault
kind_in text = ok_or (read_kind text) (Value Kind)

abbrev pub nights_in : List ℕ → Result ℕ ValueFault
nights_in text = ok_or (number_up_to MOST_NIGHTS text) (Value Nights)

abbrev pub guest_in : List ℕ → Result (List ℕ) ValueFault
guest_in text = if is_utf8 text && is_guest text then Ok text else Err (Value Guest)

abbrev pub room_in : List ℕ → Result ℕ ValueFault
room_in text = ok_or (number_up_to LAST_ROOM text) (Value Room)

-- where a text's first slash is, or its length where it has none
unfoldable pub slash_in : List ℕ → ℕ
slash_in text = position_or_len (λ b. b == 47) text

-- the number of a lock after the slash at a place, or the first one where the text ends there
abbrev pub fit_after : List ℕ → ℕ → Option ℕ
fit_after text slash = if slash == length text then Some 1 else number_up_to LAST_FIT (drop (slash + 1) text)

-- A lock: a room, or a room, a slash and the number of the room's lock. Without that number it is the room's first
-- lock.
abbrev pub lock_in : List ℕ → Result Lock ValueFault
lock_in text = do
  r ← ok_or (number_up_to LAST_ROOM (take (slash_in text) text)) (Value LockName)
  f ← ok_or (fit_after text (slash_in text)) (Value LockName)
  Ok (record { room = r; fit = f })

abbrev pub party_in : List ℕ → Result ℕ ValueFault
party_in text = ok_or (number_up_to LAST_NUMBER text) (Value Party)

abbrev pub card_in : List ℕ → Result ℕ ValueFault
card_in text = ok_or (number_up_to LAST_NUMBER text) (Value Card)

abbrev pub count_in : List ℕ → Result ℕ ValueFault
count_in text = ok_or (number_up_to LAST_NUMBER text) (Value Count)

abbrev pub moment_in : List ℕ → Result Moment ValueFault
moment_in text = ok_or (read_moment text) (Value MomentName)

-- A reading is as wanted, or there was no memory to copy a text of what is wanted.
abbrev pub IsReading : {A : Type 0} → (A → Bool) → Result A ValueFault → Result A AskFault → Type 0
IsReading copied wanted (Ok a) = Ok a ≡ wanted
IsReading copied wanted (Err (Values fault)) = Err fault ≡ wanted
IsReading copied wanted (Err Memory) = IsOkAnd wanted (λ a. copied a ≡ true)
