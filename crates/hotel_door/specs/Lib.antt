-- The file of a lock.
pub mod LockFile
-- What happens at the door.
pub mod Doings
