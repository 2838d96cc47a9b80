-- a line that is put, and one that is refused
pub mod Puts
-- the rank of a task, and its row
pub mod Rows
-- what comes at a cursor
pub mod Calls
