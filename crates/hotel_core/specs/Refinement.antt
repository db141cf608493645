-- The code's own terms, over books.
pub mod StepOnRows
pub use Rattle.hotel_books.specs.Refinement.Finds
pub mod FindsChecked
pub mod NextNote
-- Those between the rows and the model.
pub use Rattle.hotel_model.specs.Refinement.Lookups
pub use Rattle.hotel_model.specs.Refinement.Change
pub use Rattle.hotel_model.specs.Refinement.Fits
pub use Rattle.hotel_model.specs.Refinement.ChangeOf
pub use Rattle.hotel_model.specs.Refinement.OnRows
pub use Rattle.hotel_model.specs.Refinement.Answered
pub use Rattle.hotel_model.specs.Refinement.CardsOnRows
pub use Rattle.hotel_model.specs.Refinement.NotesOnRows
pub use Rattle.hotel_model.specs.Refinement.ListsOnRows
pub use Rattle.hotel_model.specs.Refinement.ListsLift
pub use Rattle.hotel_model.specs.Refinement.Lift
pub use Rattle.hotel_model.specs.Refinement.GoesOnRows
