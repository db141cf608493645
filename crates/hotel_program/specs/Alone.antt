-- What is asked for alone: one command, a list, an audit file.
pub mod CommandRuns
pub mod ListRuns
pub mod AuditRuns
