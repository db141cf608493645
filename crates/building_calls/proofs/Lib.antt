pub mod Stays
pub mod CallsStay
pub mod ListsStay
pub mod ImportsStay
pub mod RequestsStay
pub mod ConnectionsStay
pub mod ScriptsStay
