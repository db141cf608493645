-- The definitions of this crate.
pub mod Books
pub mod Refinement
pub mod NightIndex
pub mod KindRooms
pub mod FreeRows
