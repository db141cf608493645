-- Worked scenes: what happens in a building over an empty desk, line by line, with what the desk answers and says, and
-- what is so at the doors.
pub mod Lines
pub mod LateLog
pub mod Recoding
pub mod ReplacedLock
pub mod BadDoor
-- What goes wrong without a premise.
pub mod Premises
