-- The model, in its reading order: each file cites only those above it, definitions of keycard_rules and hotel_nights,
-- and the types of commands, of replies, of rows and of the lists' rows.

-- Small words that the other definitions are written with.
pub mod Words
-- The rows of the books, and what stands in them.
pub mod Rows
-- What can happen: each accepted command or taken note is one event.
pub mod Event
-- A history is what the desk started with, and then events in order.
pub mod History
-- The codes that were issued at a room, its current code, and which code is fresh.
pub mod Issued
-- The cards, and the newest link of a room and of a party.
pub mod Cards
-- The code that a room's lock holds.
pub mod Lock
-- The codes that it has passed, and those that it awaits.
pub mod Ledger
-- Who is registered at a room, which cards are inside, and whether the room is secured.
pub mod Guests
-- The business day, the kinds and rooms, the stays, and how full a night is.
pub mod Stays
-- The notes that were taken.
pub mod Notes
-- The fits of each room: its locks, one after the other.
pub mod Refits
-- How a further note stands to those that were taken.
pub mod Standing
-- The rows that stand for a history.
pub mod RowsOf
-- The questions on which the answers turn.
pub mod Cases
-- What comes of a command: a reply, an event where it was accepted, and how many words of the source were examined.
pub mod Outcome
-- The answer to each command: the first of its checks that refuses it, else its effect.
pub mod Answer
-- The texts of refusals.
pub mod RefusalTexts
-- What a note may be answered.
pub mod NoteReplies
-- The ranges of the values in commands, replies and events.
pub mod Ranges
-- The rules of sound rows: of the day, kinds and rooms,
pub mod SoundRooms
-- of stays,
pub mod SoundStays
-- of codes and cards,
pub mod SoundCards
-- of cards inside and notes,
pub mod SoundNotes
-- of fits,
pub mod SoundFits
-- and all of them together.
pub mod Sound
-- The histories that can be reached, the rows that stand for them, and runs of commands with their replies.
pub mod Run
-- The rows of the lists.
pub mod Lists
-- What a note moved: exactly the codes that it records.
pub mod Moved
-- The headline, and what is assured beside it, of each history that can be reached.
pub mod Headline
-- What a call over books promises of histories.
pub mod Leads
-- What is proved of the definitions: they are what they say.
pub mod Laws
-- What is proved beside: what a reissue leaves, which bookings are kept, where an issued code and a card
-- inside are listed, the limits.
pub mod FurtherLaws
-- The code's own terms, between the rows and the model.
pub mod Refinement
-- The worked scenarios, as they are computed.
pub mod Scenes
