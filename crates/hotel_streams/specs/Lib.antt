pub mod Asked
pub mod Bytes
pub mod Calls
pub mod Faults
pub mod Reads
pub mod TestStreams
