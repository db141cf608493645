-- What books promise.
pub mod Reads
pub mod Failures
pub mod Walks
pub mod Changes
pub mod Stops
