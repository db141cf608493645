-- The definitions of this crate.
pub mod Applied
pub mod StopLaws
pub mod ChangesStay
pub mod Counted
pub mod TableBooks
pub mod Causes
pub mod Opening
pub mod Exits
pub mod Reopening
pub mod Paths
pub mod Files
-- Stored rows and their rules, and the texts of faults, as `hotel_rows` has them, so that a caller's clauses name one
-- crate.
pub use Rattle.hotel_rows.specs.Stored
pub use Rattle.hotel_rows.specs.Joined
pub use Rattle.hotel_rows.specs.Keys
pub use Rattle.hotel_rows.specs.RowTests
pub use Rattle.hotel_rows.specs.Damage
pub use Rattle.hotel_rows.specs.Counts
pub use Rattle.hotel_rows.specs.OpenFault
-- The types of stored rows, of what is counted of them, and of why there are no books.
pub use Rattle.hotel_rows.specs.declared.stored
pub use Rattle.hotel_rows.specs.declared.counts
pub use Rattle.hotel_rows.specs.declared.open_fault
-- The tables in the database, as `hotel_statements` has them.
pub use Rattle.hotel_statements.specs.Trees
pub use Rattle.hotel_statements.specs.Schema
pub use Rattle.hotel_statements.specs.Columns
pub use Rattle.hotel_statements.specs.Values
pub use Rattle.hotel_statements.specs.Tables
pub use Rattle.hotel_statements.specs.Books
pub use Rattle.hotel_statements.specs.Statements
pub use Rattle.hotel_statements.specs.NewDesk
pub use Rattle.hotel_statements.specs.WholeTables
pub use Rattle.hotel_statements.specs.Upgrade
