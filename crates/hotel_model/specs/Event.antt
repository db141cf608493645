-- What can happen at the desk: each accepted command or taken note is one event.
use Rattle.std.specs.Prelude.{ℕ, List, Option, Some, None}
use Rattle.keycard_rules.specs.declared.card.Link.{Link}
use Rattle.keycard_rules.specs.Note.{Note}
use Rattle.keycard_rules.specs.declared.note.Act.TheVariants as act
use Rattle.hotel_nights.specs.Moments.{Moment, note_from}

-- What happened.
pub data Event : Type 0 where
  -- the first business day is set
  Begun : (day : ℕ) → Event
  -- a kind of rooms is added
  Kind : (kind : List ℕ) → Event
  -- a room of a kind is added, with its first code
  Install : (room : ℕ) (kind : List ℕ) (code : ℕ) → Event
  -- a party books
  Reserved : (party : ℕ) (guest kind : List ℕ) (arrive depart : ℕ) → Event
  -- a booking is given up
  Cancelled : (party : ℕ) → Event
  -- a party is given a card with a new code at a room, and is registered there and at no other room: it arrives, or
  -- goes to another room, or has lost a card
  Issue : (party room number code : ℕ) → Event
  -- a party is given one more card with the link of its last one
  Spare : (party number : ℕ) → Event
  -- a party leaves for good
  CheckOut : (party : ℕ) → Event
  -- a room is given a new lock, its next fit, which knows its own code alone
  Refitted : (room fit code : ℕ) → Event
  -- the next business day comes
  NextDay : Event
  -- a lock reports: this card entered
  Entered : (room fit count number : ℕ) → Link → Moment → Event
  -- a lock reports: this card left
  Left : (room fit count number : ℕ) → Link → Moment → Event
  -- a lock reports: staff recoded it
  Recoded : (room fit count from to : ℕ) → Moment → Event

-- the note that an event took, where it took one
abbrev pub note_of : Event → Option Note
note_of (Entered room fit count number link at) = Some (note_from room fit count (act.Entered number link) at)
note_of (Left room fit count number link at) = Some (note_from room fit count (act.Left number link) at)
note_of (Recoded room fit count from to at) = Some (note_from room fit count (act.Recoded from to) at)
note_of _ = None
