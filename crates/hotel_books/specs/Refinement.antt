-- The code's own terms, over books.
pub mod Finds
