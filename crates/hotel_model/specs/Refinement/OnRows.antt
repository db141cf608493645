-- What comes of each command, by the look-ups of the rows: the columns of the answers once more, in the terms in which
-- the code asks.
use Rattle.std.specs.Prelude.{ℕ, Bool, true, false, List, [], ◌∷◌, Option, Some, None, ◌+◌, ◌-◌, ◌==◌, ◌&&◌}
use Rattle.std.specs.Prelude.{if◌then◌else◌, nat_lt, nat_le, is_some, is_none, option_map, length, bytes_eq}
use Rattle.keycard_rules.specs.{declared.card.Link.Link, declared.note.Act.Act, Note.Note, Lock.turn, Draw.draw_from}
use Rattle.keycard_rules.specs.declared.note.Act.TheVariants as act
use Rattle.keycard_rules.specs.declared.note.TheConstants.{LAST_DAY}
use Rattle.keycard_rules.specs.declared.numbers.TheConstants.{LAST_FIT}
use Rattle.hotel_nights.specs.declared.stay.Stay.{Stay}
use Rattle.hotel_nights.specs.declared.stay.StayState.TheVariants as state
use Rattle.hotel_model.specs.{declared.change.Change.Change, declared.change.InsideMove.TheVariants.Same}
use Rattle.hotel_model.specs.{declared.change.InsideMove.TheVariants.Goes}
use Rattle.hotel_model.specs.declared.change.Change.TheVariants as change
use Rattle.hotel_model.specs.{declared.command.Command.Command, declared.reply.Reply.Reply}
use Rattle.hotel_model.specs.{declared.reply.Refusal.Refusal, declared.rows.RoomRow.RoomRow}
use Rattle.hotel_model.specs.declared.command.Command.TheVariants as command
use Rattle.hotel_model.specs.declared.reply.Reply.TheVariants as reply
use Rattle.hotel_model.specs.declared.reply.Refusal.TheVariants.{NotBegun, AlreadyBegun, KindExists, NoKind, RoomExists}
use Rattle.hotel_model.specs.declared.reply.Refusal.TheVariants.{NoRoom, NoParty, NotBooked, NotInHouse, TooEarly}
use Rattle.hotel_model.specs.declared.reply.Refusal.TheVariants.{StayOver, WrongKind, SameRoom, RoomTaken, PastArrival}
use Rattle.hotel_model.specs.declared.reply.Refusal.TheVariants.{PastEnd, KindFull, NumbersUsedUp, LastDay, Conflict}
use Rattle.hotel_model.specs.declared.reply.Refusal.TheVariants.{Gap, NoCard, CardDiffers, LockShut, NotInside}
use Rattle.hotel_model.specs.declared.reply.Refusal.TheVariants.{HeldDiffers, NotAwaited, OldFit, NoFit, FitsUsedUp}
use Rattle.hotel_model.specs.{Words.said_of, Words.is_one_of, Words.is_that, Rows.Rows, Rows.has_kind, Guests.are_none}
use Rattle.hotel_model.specs.Rows.{column_at, lock_place_of, room_is}
use Rattle.hotel_model.specs.{Notes.same_note, Cards.same_link, Cards.card_of, Stays.is_booked_state}
use Rattle.hotel_model.specs.{Stays.room_of_state, Cases.no_link}
use Rattle.hotel_model.specs.{Refinement.Change.codes_of, Refinement.ChangeOf.comes}
use Rattle.hotel_model.specs.Refinement.Lookups.{room_at, codes_in, code_place, code_at, stay_at, card_at, inside_at}
use Rattle.hotel_model.specs.Refinement.Lookups.{note_at, first_full_on, number_after}
use Rattle.hotel_model.specs.Outcome.{Outcome, needs, bars, unless, accepted, said, refused, by_draw}

-- the business day (0 where none is set)
abbrev pub day_on : Rows → ℕ
day_on rows = said_of rows.day 0 (λ d. d)

-- whether the party's stay is so
abbrev pub stay_is_on : Rows → ℕ → (Stay → Bool) → Bool
stay_is_on rows party test = said_of (stay_at rows party) false test

-- the number of a room's present lock (0 where it isn't there)
abbrev pub present_fit_on : Rows → ℕ → ℕ
present_fit_on rows room = column_at rows.rooms room (λ row. row.fit)

-- the room has had the lock of that number
abbrev pub is_fit_on : Rows → ℕ → ℕ → Bool
is_fit_on rows room fit = nat_le fit (present_fit_on rows room)

-- the room is of the kind of the party's stay
abbrev pub kinds_agree_on : Rows → ℕ → ℕ → Bool
kinds_agree_on rows room party = stay_is_on rows party (λ stay. room_is rows room (λ row. bytes_eq row.kind stay.kind))

-- the room in which the party is in house
abbrev pub home_on : Rows → ℕ → Option ℕ
home_on rows party = said_of (stay_at rows party) None (λ stay. room_of_state stay.state)

-- the room in which the party is in house (0 where it isn't)
abbrev pub own_room_on : Rows → ℕ → ℕ
own_room_on rows party = said_of (home_on rows party) 0 (λ room. room)

abbrev pub secured_on : Rows → ℕ → Bool
secured_on rows room = room_is rows room (λ row. row.secured)

-- the code at a place of a room (0 where there is none)
abbrev pub said_code_at : Rows → ℕ → ℕ → ℕ
said_code_at rows room place = said_of (code_at rows room place) 0 (λ code. code)

-- the code that the room's lock holds
abbrev pub held_on : Rows → ℕ → ℕ
held_on rows room = said_code_at rows room (lock_place_of rows room)

-- the link that a new code makes at a room
abbrev pub link_on : Rows → ℕ → ℕ → Link
link_on rows room code = record { old_code = said_code_at rows room (codes_of rows room - 1); new_code = code }

-- the link of a room's last two codes
abbrev pub last_link_on : Rows → ℕ → Link
last_link_on rows room = record {
  old_code = said_code_at rows room (codes_of rows room - 2);
  new_code = said_code_at rows room (codes_of rows room - 1);
}

-- the link of the last two codes of the room in which the party is in house
abbrev pub home_link_on : Rows → ℕ → Link
home_link_on rows party = said_of (home_on rows party) no_link (last_link_on rows)

-- the place of a code (0 where it isn't there)
abbrev pub place_on : Rows → ℕ → ℕ
place_on rows code = said_of (code_place rows code) 0 (λ row. row.place)

-- the code stands at the room, after the one that the lock holds
abbrev pub is_awaited_on : Rows → ℕ → ℕ → Bool
is_awaited_on rows room code =
    said_of (code_place rows code) false (λ row. (row.room == room) && nat_lt (lock_place_of rows room) row.place)

-- the card of the number has this link
abbrev pub has_link_on : Rows → ℕ → Link → Bool
has_link_on rows number link = said_of (card_at rows number) false (λ card. same_link card.link link)

-- after an entry with the current code into an empty room it is secured; else it stays as it was
abbrev pub secured_after_on : Rows → ℕ → Link → Bool
secured_after_on rows room link =
    if are_none (inside_at rows room) && (place_on rows link.new_code + 1 == codes_of rows room) then true
    else secured_on rows room

-- a card of this link opened the door: it is inside from now on, and the lock holds the link's new code
abbrev pub opened_on : Rows → Note → ℕ → Link → Outcome Change
opened_on rows note number link =
    accepted reply.Taken (change.Noted note (place_on rows link.new_code) (secured_after_on rows note.room link)
    (comes (is_one_of number (inside_at rows note.room)) number))

-- the next note of a room: what it says must be so
abbrev pub told_on : Rows → Note → Act → Outcome Change
told_on rows note (act.Entered number link) =
    unless (needs (is_some (card_at rows number)) NoCard ∷ needs (has_link_on rows number link) CardDiffers
    ∷ needs (is_some (turn (held_on rows note.room) link)) LockShut ∷ [])
    (opened_on rows note number link)
told_on rows note (act.Left number link) =
    unless (needs (is_some (card_at rows number)) NoCard ∷ needs (has_link_on rows number link) CardDiffers
    ∷ needs (is_one_of number (inside_at rows note.room)) NotInside ∷ [])
    (accepted reply.Taken (change.Noted note (lock_place_of rows note.room) (secured_on rows note.room) (Goes number)))
told_on rows note (act.Recoded from to) =
    unless (needs (held_on rows note.room == from) HeldDiffers ∷ needs (is_awaited_on rows note.room to) NotAwaited
    ∷ [])
    (accepted reply.Taken (change.Noted note (place_on rows to) (secured_on rows note.room) Same))

-- a note of a room of this row that wasn't taken: of its present lock it is the next one, or leaves a gap
abbrev pub untaken_on : Rows → Note → RoomRow → Outcome Change
untaken_on rows note row =
    if note.fit == row.fit then (if note.count == row.notes - row.before + 1 then told_on rows note note.act
    else refused (Gap (row.notes - row.before + 1))) else refused OldFit

-- a note whose count was taken under its lock is a copy or a conflict
abbrev pub reported_on : Rows → Note → Option Note → Outcome Change
reported_on rows note (Some kept) = if same_note kept note then said reply.Seen else refused Conflict
reported_on rows note None =
    said_of (room_at rows note.room) (refused NoRoom) (untaken_on rows note)

-- the reply and the change of the first fresh code that these words give
abbrev pub with_fresh_on : Rows → List ℕ → (ℕ → Reply) → (ℕ → Change) → Outcome Change
with_fresh_on rows ahead reply_with change_with = by_draw (draw_from (codes_in rows) ahead) reply_with change_with

-- a fresh code is issued at the room, and the party is given a card with it; the party may leave another room
abbrev pub issues_on : Rows → List ℕ → ℕ → ℕ → Option ℕ → Outcome Change
issues_on rows ahead party room leaves =
    with_fresh_on rows ahead (λ code. reply.Issued (card_of (length rows.cards + 1) party (link_on rows room code)))
    (λ code. change.Issue (card_of (length rows.cards + 1) party (link_on rows room code)) room leaves)

-- the checks of a further card for a party in house, in order
abbrev pub further_card_checks_on : Rows → ℕ → List (Option Refusal)
further_card_checks_on rows party =
    needs (is_some rows.day) NotBegun ∷ needs (is_some (stay_at rows party)) NoParty
    ∷ needs (is_some (home_on rows party)) NotInHouse
    ∷ bars (is_none (number_after (length rows.cards))) NumbersUsedUp ∷ []

-- the checks of each command, in order
abbrev pub checks_on : Rows → Command → List (Option Refusal)
checks_on rows (command.Begin day) = bars (is_some rows.day) AlreadyBegun ∷ []
checks_on rows (command.AddKind kind) = needs (is_some rows.day) NotBegun ∷ bars (has_kind rows kind) KindExists ∷ []
checks_on rows (command.AddRoom room kind) =
    needs (is_some rows.day) NotBegun ∷ needs (has_kind rows kind) NoKind
    ∷ bars (is_some (room_at rows room)) RoomExists ∷ []
checks_on rows (command.Reserve guest kind arrive nights) =
    needs (is_some rows.day) NotBegun ∷ needs (has_kind rows kind) NoKind
    ∷ bars (nat_lt arrive (day_on rows)) PastArrival
    ∷ bars (nat_lt LAST_DAY (arrive + nights)) PastEnd ∷ option_map KindFull (first_full_on rows kind arrive nights)
    ∷ bars (is_none (number_after (length rows.stays))) NumbersUsedUp ∷ []
checks_on rows (command.Cancel party) =
    needs (is_some rows.day) NotBegun ∷ needs (is_some (stay_at rows party)) NoParty
    ∷ needs (stay_is_on rows party (λ stay. is_booked_state stay.state)) NotBooked ∷ []
checks_on rows (command.CheckIn party room) =
    needs (is_some rows.day) NotBegun ∷ needs (is_some (room_at rows room)) NoRoom
    ∷ needs (is_some (stay_at rows party)) NoParty
    ∷ needs (stay_is_on rows party (λ stay. is_booked_state stay.state)) NotBooked
    ∷ bars (stay_is_on rows party (λ stay. nat_lt (day_on rows) stay.arrive)) TooEarly
    ∷ bars (stay_is_on rows party (λ stay. nat_le stay.depart (day_on rows))) StayOver
    ∷ needs (kinds_agree_on rows room party) WrongKind ∷ bars (room_is rows room (λ row. is_some row.party)) RoomTaken
    ∷ bars (is_none (number_after (length rows.cards))) NumbersUsedUp ∷ []
checks_on rows (command.Spare party) = further_card_checks_on rows party
checks_on rows (command.Reissue party) = further_card_checks_on rows party
checks_on rows (command.Transfer party room) =
    needs (is_some rows.day) NotBegun ∷ needs (is_some (room_at rows room)) NoRoom
    ∷ needs (is_some (stay_at rows party)) NoParty
    ∷ needs (is_some (home_on rows party)) NotInHouse ∷ needs (kinds_agree_on rows room party) WrongKind
    ∷ bars (room_is rows room (λ row. is_that row.party party)) SameRoom
    ∷ bars (room_is rows room (λ row. is_some row.party)) RoomTaken
    ∷ bars (is_none (number_after (length rows.cards))) NumbersUsedUp ∷ []
checks_on rows (command.CheckOut party) =
    needs (is_some rows.day) NotBegun ∷ needs (is_some (stay_at rows party)) NoParty
    ∷ needs (is_some (home_on rows party)) NotInHouse ∷ []
checks_on rows (command.Refit room) =
    needs (is_some rows.day) NotBegun ∷ needs (is_some (room_at rows room)) NoRoom
    ∷ bars (room_is rows room (λ row. is_some row.party)) RoomTaken
    ∷ bars (nat_le LAST_FIT (present_fit_on rows room)) FitsUsedUp ∷ []
checks_on rows command.NextDay = needs (is_some rows.day) NotBegun ∷ needs (nat_lt (day_on rows) LAST_DAY) LastDay ∷ []
checks_on rows (command.Reported note) =
    needs (is_some rows.day) NotBegun ∷ needs (is_some (room_at rows note.room)) NoRoom
    ∷ needs (is_fit_on rows note.room note.fit) NoFit ∷ []

-- what comes of each command that passes its checks, where these are the source's next words
abbrev pub effect_on : Rows → List ℕ → Command → Outcome Change
effect_on rows ahead (command.Begin day) = accepted reply.Begun (change.Begin day)
effect_on rows ahead (command.AddKind kind) = accepted reply.KindAdded (change.Kind kind)
effect_on rows ahead (command.AddRoom room kind) =
    with_fresh_on rows ahead (λ code. reply.RoomAdded code) (λ code. change.Room room kind code)
effect_on rows ahead (command.Reserve guest kind arrive nights) =
    accepted (reply.Reserved (length rows.stays + 1))
    (change.Reserved (record {
      party = length rows.stays + 1;
      guest = guest;
      kind = kind;
      arrive = arrive;
      depart = arrive + nights;
      state = state.Booked;
    }))
effect_on rows ahead (command.Cancel party) = accepted reply.Cancelled (change.Cancelled party)
effect_on rows ahead (command.CheckIn party room) = issues_on rows ahead party room None
effect_on rows ahead (command.Spare party) =
    accepted (reply.Issued (card_of (length rows.cards + 1) party (home_link_on rows party)))
    (change.Spare (card_of (length rows.cards + 1) party (home_link_on rows party)))
effect_on rows ahead (command.Reissue party) = issues_on rows ahead party (own_room_on rows party) None
effect_on rows ahead (command.Transfer party room) = issues_on rows ahead party room (home_on rows party)
effect_on rows ahead (command.CheckOut party) =
    accepted reply.CheckedOut (change.CheckedOut party (own_room_on rows party))
effect_on rows ahead (command.Refit room) =
    with_fresh_on rows ahead (λ code. reply.Refitted code (present_fit_on rows room + 1))
    (λ code. change.Refit room code (present_fit_on rows room + 1))
effect_on rows ahead command.NextDay = accepted (reply.DayIs (day_on rows + 1)) (change.DayTo (day_on rows + 1))
effect_on rows ahead (command.Reported note) = reported_on rows note (note_at rows note.room note.fit note.count)

-- what comes of a command to books with these rows
unfoldable pub outcome_on : Rows → List ℕ → Command → Outcome Change
outcome_on rows ahead command = unless (checks_on rows command) (effect_on rows ahead command)
