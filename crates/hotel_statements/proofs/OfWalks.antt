-- The rows that the walks' statements show are those of the lists.
pub mod Compared
pub mod Single
pub mod Given
pub mod SoundCodes
pub mod Chain
pub mod Joined
pub mod House
pub mod Behind
pub mod Status
pub mod Insiders
pub mod Kinds
pub mod LastFits
pub mod Locked
