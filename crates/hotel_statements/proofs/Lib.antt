pub mod Answers
pub mod InOrder
pub mod Perm
pub mod Joins
mod Keys
mod Found
pub mod Books
mod Keeps
mod Unread
mod LookedInTurn
mod Looked
mod Readied
pub mod Since
mod Writing
mod Makers
mod Ordered
pub mod Keyed
pub mod Risen
mod Finds
mod Lists
mod ByRoom
mod Fitted
mod Last
mod NewDesk
mod Statements
mod Whole
mod Readings
mod ReadingsInTurn
pub mod ReadBack
pub mod Naturals
mod Made
pub mod Transaction
pub mod Ends
pub mod InTurn
pub mod Upgraded
mod Walked
mod OfWalks
pub mod SameSchema
