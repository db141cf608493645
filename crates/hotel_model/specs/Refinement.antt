-- The code's own terms, between the rows and the model.
-- What look-ups answer on rows, what a change makes of them, and which change fits.
pub mod Lookups
pub mod Change
pub mod Fits
pub mod ChangeOf
pub mod OnRows
pub mod Answered
pub mod CardsOnRows
pub mod NotesOnRows
pub mod ListsOnRows
pub mod ListsLift
pub mod Lift
pub mod GoesOnRows
