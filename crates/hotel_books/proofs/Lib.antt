pub mod Names
pub mod OfTables
pub mod OfNights
pub mod OfCode
