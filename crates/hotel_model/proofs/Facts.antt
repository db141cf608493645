pub mod Follow
pub mod CodeFacts
