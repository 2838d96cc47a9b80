-- the pass over all records
pub mod Loading
-- from the verdicts on the records and on the tables to what the call says
pub mod Calls
