-- The lock of one door, apart from the desk.

-- What a lock keeps, and what it does.
pub mod Door
-- What its notes tell of the cards inside, and when it has no further note.
pub mod Log
-- A lock with all its notes.
pub mod Logged
-- The text of a log.
pub mod Gathered
pub mod NoteLine
pub mod LogWriter
-- What a text is read as.
pub mod Header
pub mod Fields
pub mod Line
pub mod AuditFile
pub mod Readings
pub mod ReadBack
-- What faults print.
pub mod Faults
