-- the hook's partition table
pub mod Records
-- the table of records at work
pub mod Shown
-- what each function of the hook promises
pub mod Hook
-- what each call with states by value promises
pub mod Calls
