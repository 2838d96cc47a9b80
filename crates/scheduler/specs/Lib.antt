-- the state as two lists
pub mod States
-- what each public function promises
pub mod Promises
