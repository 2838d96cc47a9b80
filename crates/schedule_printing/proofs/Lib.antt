-- the pages of a schedule, and what is sent of them
pub mod Schedule
