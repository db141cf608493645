-- Maps and lists in the order of keys.
pub mod MapEntries
pub mod RowsChanged
