-- what comes at a cursor
pub mod Coming
-- what each function promises
pub mod Promises
