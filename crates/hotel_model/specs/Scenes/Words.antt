-- The words of the scenes: commands and replies in the order of a script's words, days, codes, guests and the rows of
-- lists.
use Rattle.std.specs.Prelude.{ℕ, Bool, List, Option, ◌+◌, codes}
use Rattle.keycard_rules.specs.declared.card.Card.{Card}
use Rattle.keycard_rules.specs.declared.card.Link.{Link}
use Rattle.keycard_rules.specs.Note.{Note}
use Rattle.keycard_rules.specs.declared.note.Act.{Act}
use Rattle.keycard_rules.specs.declared.note.Act.TheVariants as act
use Rattle.hotel_nights.specs.Moments.{Moment, note_from}
use Rattle.hotel_model.specs.declared.command.Command.{Command}
use Rattle.hotel_model.specs.declared.command.Command.TheVariants as command
use Rattle.hotel_model.specs.declared.reply.Reply.{Reply}
use Rattle.hotel_model.specs.declared.reply.Reply.TheVariants as reply
use Rattle.hotel_model.specs.declared.reply.Refusal.{Refusal}
use Rattle.hotel_model.specs.declared.list_rows.ChainRow.{ChainRow}
use Rattle.hotel_model.specs.declared.list_rows.CodeState.TheVariants.{Passed, Held, Awaited}
use Rattle.hotel_model.specs.declared.list_rows.HouseRow.{HouseRow}
use Rattle.hotel_model.specs.declared.list_rows.StatusRow.{StatusRow}
use Rattle.hotel_model.specs.declared.list_rows.FreeRow.{FreeRow}
use Rattle.hotel_model.specs.declared.list_rows.LockRow.{LockRow}

-- ---- values

-- a day of May 2031, which begins on day 11,443
abbrev pub may : ℕ → ℕ
may day = 11442 + day

-- the moment 2031-05-01T15:00:00
abbrev pub M : Moment
M = (may 1, 54000)

abbrev pub a0 : ℕ
a0 = 0xa0

abbrev pub a1 : ℕ
a1 = 0xa1

abbrev pub a2 : ℕ
a2 = 0xa2

abbrev pub a3 : ℕ
a3 = 0xa3

abbrev pub b0 : ℕ
b0 = 0xb0

abbrev pub b1 : ℕ
b1 = 0xb1

abbrev pub c0 : ℕ
c0 = 0xc0

abbrev pub c1 : ℕ
c1 = 0xc1

abbrev pub d0 : ℕ
d0 = 0xd0

abbrev pub d1 : ℕ
d1 = 0xd1

abbrev pub DBL : List ℕ
DBL = codes "DBL"

abbrev pub SGL : List ℕ
SGL = codes "SGL"

abbrev pub TWN : List ℕ
TWN = codes "TWN"

abbrev pub TPL : List ℕ
TPL = codes "TPL"

abbrev pub guest : List ℕ
guest = codes "Guest"

abbrev pub ann_lee : List ℕ
ann_lee = codes "Ann Lee"

abbrev pub bo : List ℕ
bo = codes "Bo"

abbrev pub link : ℕ → ℕ → Link
link old new = record { old_code = old; new_code = new }

-- a note of a room's lock of this number
abbrev pub note : ℕ → ℕ → ℕ → Act → Moment → Note
note = note_from

-- ---- commands, as a script's line has them

abbrev pub begin : ℕ → Command
begin day = command.Begin day

abbrev pub add_kind : List ℕ → Command
add_kind kind = command.AddKind kind

abbrev pub add_room : ℕ → List ℕ → Command
add_room room kind = command.AddRoom room kind

abbrev pub reserve : List ℕ → ℕ → ℕ → List ℕ → Command
reserve kind arrive nights guest = command.Reserve guest kind arrive nights

abbrev pub cancel : ℕ → Command
cancel party = command.Cancel party

abbrev pub check_in : ℕ → ℕ → Command
check_in party room = command.CheckIn party room

abbrev pub spare : ℕ → Command
spare party = command.Spare party

abbrev pub reissue : ℕ → Command
reissue party = command.Reissue party

abbrev pub transfer : ℕ → ℕ → Command
transfer party room = command.Transfer party room

abbrev pub check_out : ℕ → Command
check_out party = command.CheckOut party

abbrev pub refit : ℕ → Command
refit room = command.Refit room

abbrev pub next_day : Command
next_day = command.NextDay

-- notes of a room's lock of this number
abbrev pub entered_by : ℕ → ℕ → ℕ → ℕ → ℕ → ℕ → Moment → Command
entered_by room fit count number old new at =
    command.Reported (note room fit count (act.Entered number (link old new)) at)

abbrev pub left_by : ℕ → ℕ → ℕ → ℕ → ℕ → ℕ → Moment → Command
left_by room fit count number old new at = command.Reported (note room fit count (act.Left number (link old new)) at)

abbrev pub recoded_by : ℕ → ℕ → ℕ → ℕ → ℕ → Moment → Command
recoded_by room fit count from to at = command.Reported (note room fit count (act.Recoded from to) at)

-- notes of a room's first lock
abbrev pub entered : ℕ → ℕ → ℕ → ℕ → ℕ → Moment → Command
entered room count number old new at = entered_by room 1 count number old new at

abbrev pub left : ℕ → ℕ → ℕ → ℕ → ℕ → Moment → Command
left room count number old new at = left_by room 1 count number old new at

abbrev pub recoded : ℕ → ℕ → ℕ → ℕ → Moment → Command
recoded room count from to at = recoded_by room 1 count from to at

-- ---- replies, as their texts have them

abbrev pub begun : Reply
begun = reply.Begun

abbrev pub kind_added : Reply
kind_added = reply.KindAdded

abbrev pub room_code : ℕ → Reply
room_code code = reply.RoomAdded code

abbrev pub party : ℕ → Reply
party number = reply.Reserved number

abbrev pub cancelled : Reply
cancelled = reply.Cancelled

abbrev pub card_of : ℕ → ℕ → ℕ → ℕ → Card
card_of number its_party old new = record { number = number; party = its_party; link = link old new }

abbrev pub card : ℕ → ℕ → ℕ → ℕ → Reply
card number its_party old new = reply.Issued (card_of number its_party old new)

abbrev pub checked_out : Reply
checked_out = reply.CheckedOut

abbrev pub lock : ℕ → ℕ → Reply
lock fit code = reply.Refitted code fit

abbrev pub day : ℕ → Reply
day number = reply.DayIs number

abbrev pub taken : Reply
taken = reply.Taken

abbrev pub seen : Reply
seen = reply.Seen

abbrev pub refused : Refusal → Reply
refused refusal = reply.Refused refusal

-- ---- rows of lists

abbrev pub passed : ℕ → ℕ → ChainRow
passed place code = record { place = place; code = code; state = Passed }

abbrev pub held : ℕ → ℕ → ChainRow
held place code = record { place = place; code = code; state = Held }

abbrev pub awaited : ℕ → ℕ → ChainRow
awaited place code = record { place = place; code = code; state = Awaited }

-- a party in a room of the kind DBL, secured or not
abbrev pub house : ℕ → ℕ → List ℕ → ℕ → Bool → HouseRow
house room its_party guest depart secured =
    record { room = room; party = its_party; guest = guest; kind = DBL; depart = depart; secured = secured }

-- a room of the kind DBL, with its party if there is one, secured or not
abbrev pub status : ℕ → Option ℕ → Bool → ℕ → StatusRow
status room its_party secured codes_awaited =
    record { room = room; kind = DBL; party = its_party; secured = secured; awaited = codes_awaited }

-- a kind with so many rooms, free for so many bookings
abbrev pub free : List ℕ → ℕ → ℕ → FreeRow
free kind rooms bookings = record { kind = kind; rooms = rooms; free = bookings }

-- the present lock of a room, so many of whose notes were taken, the last of this moment
abbrev pub lock_noted : ℕ → ℕ → ℕ → Option Moment → LockRow
lock_noted room fit count at = record { room = room; fit = fit; count = count; at = at }
