-- What the desk answers after a history: the first refusal of the command's row whose case holds, else the accepted
-- reply and its event.
use Rattle.std.specs.Prelude.{ℕ, List, [], ◌∷◌, Option, ◌+◌, nat_lt, option_map}
use Rattle.hotel_model.specs.declared.command.Command.{Command}
use Rattle.hotel_model.specs.declared.command.Command.TheVariants as command
use Rattle.hotel_model.specs.declared.reply.Reply.TheVariants as reply
use Rattle.hotel_model.specs.declared.reply.Refusal.{Refusal}
use Rattle.hotel_model.specs.declared.reply.Refusal.TheVariants.{NotBegun, AlreadyBegun, KindExists, NoKind, RoomExists}
use Rattle.hotel_model.specs.declared.reply.Refusal.TheVariants.{NoRoom, NoParty, NotBooked, NotInHouse, TooEarly}
use Rattle.hotel_model.specs.declared.reply.Refusal.TheVariants.{StayOver, WrongKind, SameRoom, RoomTaken, PastArrival}
use Rattle.hotel_model.specs.declared.reply.Refusal.TheVariants.{PastEnd, KindFull, NumbersUsedUp, LastDay, Conflict}
use Rattle.hotel_model.specs.declared.reply.Refusal.TheVariants.{Gap, NoCard, CardDiffers, LockShut, NotInside}
use Rattle.hotel_model.specs.declared.reply.Refusal.TheVariants.{HeldDiffers, NotAwaited, OldFit, NoFit, FitsUsedUp}
use Rattle.keycard_rules.specs.declared.note.Act.{Act}
use Rattle.keycard_rules.specs.declared.note.Act.TheVariants as act
use Rattle.keycard_rules.specs.Note.{Note}
use Rattle.keycard_rules.specs.declared.note.TheConstants.{LAST_DAY}
use Rattle.hotel_model.specs.Words.{is_one_of}
use Rattle.hotel_model.specs.Event as event
use Rattle.hotel_model.specs.Event.{Event}
use Rattle.hotel_nights.specs.Moments.{moment_of}
use Rattle.hotel_model.specs.History.{History}
use Rattle.hotel_model.specs.Cards.{card_of, link_to}
use Rattle.hotel_model.specs.Ledger.{awaited}
use Rattle.hotel_model.specs.Guests.{inside}
use Rattle.hotel_model.specs.Stays.{first_full}
use Rattle.hotel_model.specs.Refits.{is_fit, fits_used_up, next_fit}
use Rattle.hotel_model.specs.Standing.{Standing, Copy, Conflicting, OfOldFit, Next, After, standing}
use Rattle.hotel_model.specs.Cases.{is_begun, today, is_kind, is_room, is_party, own_room, is_booked, is_in_house}
use Rattle.hotel_model.specs.Cases.{is_early, is_over, is_of_kind, is_home, is_taken, parties_used_up, next_party}
use Rattle.hotel_model.specs.Cases.{cards_used_up, next_card, last_card_of, is_card, has_link, opens, holds}
use Rattle.hotel_model.specs.Outcome.{Outcome, needs, bars, unless, accepted, said, refused, with_fresh}

-- The next note of a room: what it says must be so.
abbrev pub told : History → Note → Act → Outcome Event
told h note (act.Entered number link) =
    unless (needs (is_card h number) NoCard ∷ needs (has_link h number link) CardDiffers
    ∷ needs (opens h note.room link) LockShut ∷ [])
    (accepted reply.Taken (event.Entered note.room note.fit note.count number link (moment_of note)))
told h note (act.Left number link) =
    unless (needs (is_card h number) NoCard ∷ needs (has_link h number link) CardDiffers
    ∷ needs (is_one_of number (inside h note.room)) NotInside ∷ [])
    (accepted reply.Taken (event.Left note.room note.fit note.count number link (moment_of note)))
told h note (act.Recoded from to) =
    unless (needs (holds h note.room from) HeldDiffers ∷ needs (is_one_of to (awaited h note.room)) NotAwaited ∷ [])
    (accepted reply.Taken (event.Recoded note.room note.fit note.count from to (moment_of note)))

-- A copy was seen, another content is a conflict; an earlier fit takes no further note, a later count leaves a gap;
-- only the next note is looked at.
abbrev pub reported : History → Note → Standing → Outcome Event
reported h note Copy = said reply.Seen
reported h note Conflicting = refused Conflict
reported h note OfOldFit = refused OldFit
reported h note (After expected) = refused (Gap expected)
reported h note Next = told h note note.act

-- The checks of a further card for a party in house, in order.
abbrev pub further_card_checks : History → ℕ → List (Option Refusal)
further_card_checks h party =
    needs (is_begun h) NotBegun ∷ needs (is_party h party) NoParty ∷ needs (is_in_house h party) NotInHouse
    ∷ bars (cards_used_up h) NumbersUsedUp ∷ []

-- The checks of each command, in order.
abbrev pub checks : History → Command → List (Option Refusal)
checks h (command.Begin day) = bars (is_begun h) AlreadyBegun ∷ []
checks h (command.AddKind kind) = needs (is_begun h) NotBegun ∷ bars (is_kind h kind) KindExists ∷ []
checks h (command.AddRoom room kind) =
    needs (is_begun h) NotBegun ∷ needs (is_kind h kind) NoKind ∷ bars (is_room h room) RoomExists ∷ []
checks h (command.Reserve guest kind arrive nights) =
    needs (is_begun h) NotBegun ∷ needs (is_kind h kind) NoKind ∷ bars (nat_lt arrive (today h)) PastArrival
    ∷ bars (nat_lt LAST_DAY (arrive + nights)) PastEnd ∷ option_map KindFull (first_full h kind arrive nights)
    ∷ bars (parties_used_up h) NumbersUsedUp ∷ []
checks h (command.Cancel party) =
    needs (is_begun h) NotBegun ∷ needs (is_party h party) NoParty ∷ needs (is_booked h party) NotBooked ∷ []
checks h (command.CheckIn party room) =
    needs (is_begun h) NotBegun ∷ needs (is_room h room) NoRoom ∷ needs (is_party h party) NoParty
    ∷ needs (is_booked h party) NotBooked
    ∷ bars (is_early h party) TooEarly ∷ bars (is_over h party) StayOver ∷ needs (is_of_kind h room party) WrongKind
    ∷ bars (is_taken h room) RoomTaken ∷ bars (cards_used_up h) NumbersUsedUp ∷ []
checks h (command.Spare party) = further_card_checks h party
checks h (command.Reissue party) = further_card_checks h party
checks h (command.Transfer party room) =
    needs (is_begun h) NotBegun ∷ needs (is_room h room) NoRoom ∷ needs (is_party h party) NoParty
    ∷ needs (is_in_house h party) NotInHouse
    ∷ needs (is_of_kind h room party) WrongKind ∷ bars (is_home h room party) SameRoom
    ∷ bars (is_taken h room) RoomTaken ∷ bars (cards_used_up h) NumbersUsedUp ∷ []
checks h (command.CheckOut party) =
    needs (is_begun h) NotBegun ∷ needs (is_party h party) NoParty ∷ needs (is_in_house h party) NotInHouse ∷ []
checks h (command.Refit room) =
    needs (is_begun h) NotBegun ∷ needs (is_room h room) NoRoom ∷ bars (is_taken h room) RoomTaken
    ∷ bars (fits_used_up h room) FitsUsedUp ∷ []
checks h command.NextDay = needs (is_begun h) NotBegun ∷ needs (nat_lt (today h) LAST_DAY) LastDay ∷ []
checks h (command.Reported note) =
    needs (is_begun h) NotBegun ∷ needs (is_room h note.room) NoRoom ∷ needs (is_fit h note.room note.fit) NoFit ∷ []

-- a fresh code is issued at the room, and the party is given a card with it
abbrev pub issues : History → List ℕ → ℕ → ℕ → Outcome Event
issues h ahead party room = with_fresh h ahead (λ code. reply.Issued
    (card_of (next_card h) party (link_to h room code))) (λ code. event.Issue party room (next_card h) code)

-- What comes of each command that passes its checks, where these are the source's next words.
abbrev pub effect : History → List ℕ → Command → Outcome Event
effect h ahead (command.Begin day) = accepted reply.Begun (event.Begun day)
effect h ahead (command.AddKind kind) = accepted reply.KindAdded (event.Kind kind)
effect h ahead (command.AddRoom room kind) =
    with_fresh h ahead (λ code. reply.RoomAdded code) (λ code. event.Install room kind code)
effect h ahead (command.Reserve guest kind arrive nights) =
    accepted (reply.Reserved (next_party h)) (event.Reserved (next_party h) guest kind arrive (arrive + nights))
effect h ahead (command.Cancel party) = accepted reply.Cancelled (event.Cancelled party)
effect h ahead (command.CheckIn party room) = issues h ahead party room
effect h ahead (command.Spare party) =
    accepted (reply.Issued (card_of (next_card h) party (last_card_of h party))) (event.Spare party (next_card h))
effect h ahead (command.Reissue party) = issues h ahead party (own_room h party)
effect h ahead (command.Transfer party room) = issues h ahead party room
effect h ahead (command.CheckOut party) = accepted reply.CheckedOut (event.CheckOut party)
effect h ahead (command.Refit room) = with_fresh h ahead (λ code. reply.Refitted code (next_fit h room))
    (λ code. event.Refitted room (next_fit h room) code)
effect h ahead command.NextDay = accepted (reply.DayIs (today h + 1)) event.NextDay
effect h ahead (command.Reported note) = reported h note (standing h note)

-- What the desk answers to a command after a history: the first refusal of its checks, else what comes of it.
unfoldable pub answer_to : History → List ℕ → Command → Outcome Event
answer_to h ahead command = unless (checks h command) (effect h ahead command)
