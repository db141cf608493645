mod NoteReplies
pub mod ImportEnds
mod LineAnswers
mod ShutImports
pub mod ImportsLead
mod NotesKnown
mod SentAgain
mod NoteOutcomes
mod OtherRooms
mod IdleNotes
mod SentAtOnce
mod NotesInRange
mod CountsOfFits
mod FilesCounted
mod NotesTaken
pub mod AnswersWritten
mod NotesSound
mod ListSeen
