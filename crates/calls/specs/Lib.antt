-- a log of calls, and the history that it is
pub mod Calls
-- what the guarantee says of it
pub mod CodeKeeps
