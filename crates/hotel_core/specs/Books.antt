-- What books promise, and what happened over them.
pub use Rattle.hotel_books.specs.Books.Reads
pub use Rattle.hotel_books.specs.Books.Failures
pub use Rattle.hotel_books.specs.Books.Walks
pub use Rattle.hotel_books.specs.Books.Changes
pub use Rattle.hotel_books.specs.Books.Stops
pub mod Happens
pub mod Stepped
