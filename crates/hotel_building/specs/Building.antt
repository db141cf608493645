-- A building: a desk, and doors whose locks stand alone. What happens at a door is noted by its lock, and the desk
-- hears of it when it is told the note, later or never.
use Rattle.std.specs.Prelude.{ℕ, ◌≡◌, ◌<◌, ◌⊎◌, ◌==◌, not, true, List, [], ◌∷◌, Option, Some, None, Contains}
use Rattle.std.specs.Prelude.{length, filter, drop}
use Rattle.keycard_rules.specs.declared.card.Card.{Card}
use Rattle.keycard_rules.specs.declared.note.Act.{Act}
use Rattle.keycard_rules.specs.declared.note.Act.TheVariants as act
use Rattle.keycard_rules.specs.declared.numbers.TheConstants.{LAST_NUMBER}
use Rattle.keycard_rules.specs.Note.{Note, IsTimed}
use Rattle.hotel_nights.specs.Moments.{Moment, moment_of}
use Rattle.hotel_model.specs.declared.command.Command.{Command}
use Rattle.hotel_model.specs.Words.{when, and_last}
use Rattle.hotel_model.specs.Rows.{Rows, at_number}
use Rattle.hotel_model.specs.Event as event
use Rattle.hotel_model.specs.Event.{Event, note_of}
use Rattle.hotel_model.specs.History.{History, start, ◌▷◌}
use Rattle.hotel_model.specs.Cards.{cards}
use Rattle.hotel_model.specs.Lock.{held}
use Rattle.hotel_model.specs.Ledger.{awaited}
use Rattle.hotel_model.specs.Guests.{inside}
use Rattle.hotel_model.specs.Notes.{notes_of}
use Rattle.hotel_model.specs.Refits.{present_fit}
use Rattle.hotel_model.specs.Cases.{is_room}
use Rattle.hotel_model.specs.Answer.{answer_to}
use Rattle.hotel_model.specs.Ranges.{InRange}
use Rattle.hotel_model.specs.Sound.{IsSound}
use Rattle.hotel_lock.specs.Door.{Lock, Noted, fitted, enters, leaves, is_set}

-- ---- what happens

-- A door: its lock, the notes of the lock that the desk has not heard, in order, the cards that came in by opening the
-- lock and have not gone out, and those that slipped out and have not entered since.
pub record Door : Type 0 where
  pub lock : Lock
  pub unread : List Note
  pub inside : List ℕ
  pub slipped : List ℕ

-- What happens in a building, at the desk or at a door.
pub data Step : Type 0 where
  -- the desk accepts a command
  Accepted : Event → Step
  -- a card is shown at a room's lock from outside: the lock opens, or stays shut
  Shown : (room : ℕ) → Card → Moment → Step
  -- a card goes out of a room, and the lock notes it
  GoesOut : (room : ℕ) → Card → Moment → Step
  -- a card goes out of a room, and no lock notes it
  SlipsOut : (room number : ℕ) → Step
  -- staff set a room's lock to a code
  SetTo : (room code : ℕ) → Moment → Step
  -- the desk is told the first note of a room's lock that it has not heard
  Told : (room : ℕ) → Step
  -- a fault: a door is then as it may be, whatever its lock did, and whichever cards came in
  Fails : (room : ℕ) → Door → Step
  -- a fault: the desk takes a note, whoever made it
  Forged : Note → Step

infixl 30 ◌▸◌
-- A building: the rows that its desk starts with, and what happened since, in order.
pub data Building : Type 0 where
  -- nothing has happened yet
  opened : Rows → Building
  -- after what happened, one more step
  ◌▸◌ : Building → Step → Building

-- ---- the doors

-- the numbers but this one
abbrev pub but : ℕ → List ℕ → List ℕ
but n ns = filter (λ m. not (m == n)) ns

-- the door of a new room
abbrev pub new_door : ℕ → ℕ → Door
new_door room code = record { lock = fitted room 1 code; unread = []; inside = []; slipped = [] }

-- a door with its next lock: what the earlier one noted can't be told any more; who is inside stays, and who slipped
-- out isn't counted any more
abbrev pub refitted : ℕ → ℕ → ℕ → Door → Door
refitted room fit code door =
    record { lock = fitted room fit code; unread = []; inside = door.inside; slipped = [] }

-- a door as the rows have it that the desk starts with: all that its lock noted was told
abbrev pub first_door : History → ℕ → Door
first_door h room = record {
  lock = record {
    room = room;
    fit = present_fit h room;
    held = held h room;
    made = length (notes_of h room (present_fit h room));
  };
  unread = [];
  inside = inside h room;
  slipped = [];
}

-- the lock of the door did something, of which the desk has not heard yet
abbrev pub noted : Noted → Door → Door
noted it door = record door { lock = it.lock; unread = and_last it.note door.unread }

-- the lock was set, if it did anything
abbrev pub was_set : Option Noted → Door → Door
was_set (Some it) door = noted it door
was_set None door = door

-- a card was shown: it is inside if the lock opened
abbrev pub shown : Option Noted → ℕ → Door → Door
shown (Some it) number door =
    record (noted it door) { inside = number ∷ but number door.inside; slipped = but number door.slipped }
shown None number door = door

-- a card went out, and the lock noted it
abbrev pub gone_out : Noted → ℕ → Door → Door
gone_out it number door =
    record (noted it door) { inside = but number door.inside; slipped = but number door.slipped }

-- a card went out, and nothing noted it
abbrev pub slipped_out : ℕ → Door → Door
slipped_out number door =
    record door { inside = but number door.inside; slipped = number ∷ but number door.slipped }

-- The desk heard the first of the notes that it had not heard.
abbrev pub heard : Door → Door
heard door = record door { unread = drop 1 door.unread }

-- The doors: a new room and a refit give a door a new lock, and what happens at a door is done by its lock.
abbrev pub door : Building → ℕ → Door
door (opened t) r = first_door (start t) r
door (b ▸ Accepted (event.Install room kind code)) r = when (room == r) (λ _. new_door room code) (door b r)
door (b ▸ Accepted (event.Refitted room fit code)) r = when (room == r) (refitted room fit code) (door b r)
door (b ▸ Accepted _) r = door b r
door (b ▸ Shown room card at) r =
    when (room == r) (λ d. shown (enters d.lock card.number card.link at) card.number d) (door b r)
door (b ▸ GoesOut room card at) r =
    when (room == r) (λ d. gone_out (leaves d.lock card.number card.link at) card.number d) (door b r)
door (b ▸ SlipsOut room number) r = when (room == r) (slipped_out number) (door b r)
door (b ▸ SetTo room code at) r = when (room == r) (λ d. was_set (is_set d.lock code at) d) (door b r)
door (b ▸ Told room) r = when (room == r) heard (door b r)
door (b ▸ Fails room after) r = when (room == r) (λ _. after) (door b r)
door (b ▸ Forged note) r = door b r

-- ---- what the desk has heard, and what was so

-- the event of a note that says this act
abbrev pub event_by : Note → Act → Event
event_by note (act.Entered number link) =
    event.Entered note.room note.fit note.count number link (moment_of note)
event_by note (act.Left number link) = event.Left note.room note.fit note.count number link (moment_of note)
event_by note (act.Recoded from to) = event.Recoded note.room note.fit note.count from to (moment_of note)

-- the event of a note
abbrev pub event_of : Note → Event
event_of note = event_by note note.act

-- a history after the first of some notes
abbrev pub after_first : History → List Note → History
after_first h [] = h
after_first h (note ∷ later) = h ▷ event_of note

-- What the desk has: the commands that it accepted, and the notes that it was told, in the order in which it came to
-- them.
abbrev pub desk : Building → History
desk (opened t) = start t
desk (b ▸ Accepted event) = desk b ▷ event
desk (b ▸ Told room) = after_first (desk b) (door b room).unread
desk (b ▸ Forged note) = desk b ▷ event_of note
desk (b ▸ _) = desk b

-- a history after what a lock did, if it did anything
abbrev pub after_act : History → Option Noted → History
after_act h (Some it) = h ▷ event_of it.note
after_act h None = h

-- What a desk would have that hears each note at once.
abbrev pub at_once : Building → History
at_once (opened t) = start t
at_once (b ▸ Accepted event) = at_once b ▷ event
at_once (b ▸ Shown room card at) = after_act (at_once b) (enters (door b room).lock card.number card.link at)
at_once (b ▸ GoesOut room card at) =
    at_once b ▷ event_of (leaves (door b room).lock card.number card.link at).note
at_once (b ▸ SetTo room code at) = after_act (at_once b) (is_set (door b room).lock code at)
at_once (b ▸ _) = at_once b

-- ---- which steps may be made

-- the desk accepts the event, which is no note
abbrev pub IsAccepted : History → Event → Type 0
IsAccepted h event = (note_of event ≡ None) × (ahead : List ℕ) × (command : Command)
    × ((answer_to h ahead command).happens ≡ Some event) × InRange event

-- When a lock is replaced, no card is inside; notes that the desk has not heard are lost.
abbrev pub LeavesNothing : Building → Event → Type 0
LeavesNothing b (event.Refitted room fit code) = (door b room).inside ≡ []
LeavesNothing b _ = Unit {0}

-- the desk issued this card
abbrev pub IsIssued : Building → Card → Type 0
IsIssued b card = at_number (cards (desk b)) card.number ≡ Some card

-- the room is there, and its lock can count one more note, of that day and second
abbrev pub CanNote : Building → ℕ → Moment → Type 0
CanNote b room at =
    (is_room (desk b) room ≡ true) × ((door b room).lock.made < LAST_NUMBER) × IsTimed at.0 at.1

-- The notes of a lock have the card inside: it entered, and no exit was noted since.
abbrev pub IsNotedInside : Door → ℕ → Type 0
IsNotedInside door number = Contains door.inside number ⊎ Contains door.slipped number

-- Staff may set a room's lock to the code that it holds, or to one that was issued at its room after this one, which
-- all notes have as awaited.
abbrev pub MaySet : History → Door → ℕ → ℕ → Type 0
MaySet all door room code = (door.lock.held ≡ code) ⊎ Contains (awaited all room) code

-- What each step needs. A card that is shown was issued by the desk: cards aren't copied. A lock notes the exit of a
-- card only if its notes have it inside. There are no faults.
abbrev pub May : Building → Step → Type 0
May b (Accepted event) = IsAccepted (desk b) event × LeavesNothing b event
May b (Shown room card at) = IsIssued b card × CanNote b room at
May b (GoesOut room card at) = IsIssued b card × CanNote b room at × IsNotedInside (door b room) card.number
May b (SlipsOut room number) = Contains (door b room).inside number
May b (SetTo room code at) = CanNote b room at × MaySet (at_once b) (door b room) room code
May b (Told room) = Unit {0}
May b (Fails room after) = ⊥
May b (Forged note) = ⊥

-- A building can be: it opened with sound rows, and each step was one that may be made after those before it.
abbrev pub Reachable : Building → Type 0
Reachable (opened t) = IsSound t
Reachable (b ▸ step) = Reachable b × May b step
