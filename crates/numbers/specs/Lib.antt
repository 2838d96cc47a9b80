-- how what a call says is written in numbers
pub mod Answers
-- what each public function promises
pub mod Promises
