pub mod Answers
pub mod Import
pub mod Shut
pub mod SentAgain
pub mod SentAtOnce
pub mod ListSent
pub mod FilesCounted
