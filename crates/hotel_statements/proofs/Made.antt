-- What the writing statements make of the lists that the trees hold.
pub mod Entries
pub mod Desk
pub mod Reads
pub mod Writes
pub mod Inserts
pub mod Sources
pub mod Updates
pub mod Issued
pub mod Rooms
pub mod Insides
pub mod Gone
pub mod Deletes
pub mod Emptied
pub mod Alone
pub mod FirstFits
