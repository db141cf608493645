pub mod Terms
pub mod Selects
pub mod Changes
pub mod Walks
pub mod Reads
