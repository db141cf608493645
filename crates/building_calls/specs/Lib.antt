-- Books that stand in a building, in reading order.

-- Which they are, and what a call promises of them.
pub mod Stands
-- Commands, notes and runs.
pub mod Calls
-- Lists.
pub mod Lists
-- Audit files.
pub mod Imports
-- Requests.
pub mod Requests
-- The connections of a server.
pub mod Connections
-- Scripts.
pub mod Scripts
