-- The ranges of the values in commands, replies and events: those that their types hold.
use Rattle.std.specs.Prelude.{ℕ, ◌≡◌, ◌≤◌, ◌<◌, ◌+◌, true}
use Rattle.keycard_rules.specs.Numbers.{IsNumberUpTo}
use Rattle.keycard_rules.specs.Note.{IsTimed}
use Rattle.keycard_rules.specs.declared.code.TheConstants.{CODES}
use Rattle.hotel_nights.specs.declared.nights.TheConstants.{MOST_NIGHTS}
use Rattle.keycard_rules.specs.declared.note.TheConstants.{LAST_DAY}
use Rattle.keycard_rules.specs.declared.numbers.TheConstants.{LAST_FIT, LAST_NUMBER, LAST_ROOM}
use Rattle.hotel_nights.specs.Kinds.{is_kind}
use Rattle.hotel_nights.specs.Guests.{is_guest}
use Rattle.hotel_model.specs.declared.command.Command.{Command}
use Rattle.hotel_model.specs.declared.command.Command.TheVariants as command
use Rattle.hotel_model.specs.declared.reply.Reply.{Reply}
use Rattle.hotel_model.specs.declared.reply.Reply.TheVariants as reply
use Rattle.hotel_model.specs.Event.{Event, Begun, Kind, Install, Reserved, Issue, Refitted, Entered, Left, Recoded}

-- a day of the calendar
abbrev pub IsDay : ℕ → Type 0
IsDay day = day ≤ LAST_DAY

-- a code has 48 bits
abbrev pub IsCode : ℕ → Type 0
IsCode code = code < CODES

-- a room has a number from 1 on
abbrev pub IsRoomNumber : ℕ → Type 0
IsRoomNumber room = IsNumberUpTo LAST_ROOM room

-- a count or a number of a party or card
abbrev pub IsCount : ℕ → Type 0
IsCount count = IsNumberUpTo LAST_NUMBER count

-- a room's locks are numbered from 1 on
abbrev pub IsFit : ℕ → Type 0
IsFit fit = IsNumberUpTo LAST_FIT fit

-- the command's values are in their ranges
abbrev pub IsCommand : Command → Type 0
IsCommand (command.Begin day) = IsDay day
IsCommand (command.AddKind kind) = is_kind kind ≡ true
IsCommand (command.AddRoom room kind) = IsRoomNumber room
IsCommand (command.Reserve guest kind arrive nights) =
    (is_guest guest ≡ true) × IsDay arrive × IsNumberUpTo MOST_NIGHTS nights
IsCommand (command.Reported note) = IsCount note.count × IsTimed note.day note.second × IsFit note.fit
IsCommand _ = Unit {0}

-- the codes that a reply gives are in their range
abbrev pub IsReply : Reply → Type 0
IsReply (reply.RoomAdded code) = IsCode code
IsReply (reply.Issued card) = IsCode card.link.new_code
IsReply (reply.Refitted code fit) = IsCode code
IsReply _ = Unit {0}

-- the event's values are in their ranges
abbrev pub InRange : Event → Type 0
InRange (Begun day) = IsDay day
InRange (Kind kind) = is_kind kind ≡ true
InRange (Install room kind code) = IsRoomNumber room × IsCode code
InRange (Reserved party guest kind arrive depart) =
    (is_guest guest ≡ true) × (arrive < depart) × (depart ≤ arrive + MOST_NIGHTS) × IsDay depart
InRange (Issue party room number code) = IsCode code
InRange (Refitted room fit code) = IsCode code
InRange (Entered room fit count number link at) = IsCount count × IsTimed at.0 at.1 × IsFit fit
InRange (Left room fit count number link at) = IsCount count × IsTimed at.0 at.1 × IsFit fit
InRange (Recoded room fit count from to at) = IsCount count × IsTimed at.0 at.1 × IsFit fit
InRange _ = Unit {0}
