-- the code's forms and answers, read as 01's
pub mod Forms
-- what each public function promises
pub mod Promises
