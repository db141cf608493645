pub mod NightCounts
pub mod BlocksKept
pub mod NightsStanding
pub mod KindKeys
pub mod RoomsByKind
pub mod Fullest
pub mod FreeRows
