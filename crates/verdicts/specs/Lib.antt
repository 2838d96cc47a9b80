-- what a call says
pub mod Outcome
-- the code's verdict, read as 01's refusals
pub mod Verdicts
-- what each public function promises
pub mod Promises
