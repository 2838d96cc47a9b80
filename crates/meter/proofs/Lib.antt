-- a record, as the code comes to know it
pub mod Records
