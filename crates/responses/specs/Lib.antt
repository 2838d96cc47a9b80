-- the code's answers, read as 01's numbers and values
pub mod Answers
-- what the inner functions take
pub mod Inner
-- what each public function promises
pub mod Promises
