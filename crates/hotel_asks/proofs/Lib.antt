pub mod Numbered
pub mod ListingLemmas
