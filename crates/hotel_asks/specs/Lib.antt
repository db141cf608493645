pub mod Values
pub mod Verbs
pub mod Asks
pub mod Names
pub mod Faults
pub mod Listings
