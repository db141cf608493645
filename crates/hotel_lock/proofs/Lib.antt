pub mod Logs
mod LogWritten
mod FieldsAt
mod SameTexts
mod Records
mod NumbersRead
pub mod LogRead
