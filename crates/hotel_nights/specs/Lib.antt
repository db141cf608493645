pub mod Days
pub mod Moments
pub mod Kinds
pub mod Guests
pub mod FullNight
pub mod Block
