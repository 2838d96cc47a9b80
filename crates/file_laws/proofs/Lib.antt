-- The laws about meter files: of a record, and of the records of a file.
pub mod MeterFile
pub mod Records
-- and two files that are too long to stand beside the others
pub mod TooMany
