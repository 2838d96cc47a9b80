-- the table of the first records
pub mod Columns
