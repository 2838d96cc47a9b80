-- the code's lines and answers, read as 01's
pub mod Lines
-- a line as its fields
pub mod Fields
-- what each public function promises
pub mod Promises
