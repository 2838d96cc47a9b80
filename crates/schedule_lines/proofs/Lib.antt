-- a line that is put, and one that is refused
pub mod Puts
-- the line of a record
pub mod Events
-- what comes at a cursor
pub mod Calls
