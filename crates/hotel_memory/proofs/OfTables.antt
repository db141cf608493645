pub mod RowsByPlace
pub mod LaterPlaces
pub mod PlacedCodes
pub mod DayNumbers
pub mod CardsInside
pub mod RoomNotes
