pub mod OfJoined
pub mod OfCounts
pub mod OfDamage
