-- A building: the desk, and the locks of its doors, which stand alone. In reading order; each file cites only those
-- above it, and specs of hotel_lock, hotel_model and keycard_rules.

-- What happens in a building, its doors, what the desk has heard, and which buildings can be.
pub mod Building
-- What is proved of each building that can be.
pub mod Promises
-- A fault harms only its door.
pub mod Faults
-- A call of the desk, in a building.
pub mod Calls
-- The locks as crates/hotel_lock runs them, each with its log.
pub mod Logs
-- Worked scenes.
pub mod Scenes
