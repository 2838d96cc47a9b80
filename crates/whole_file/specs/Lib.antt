-- what the inner functions give
pub mod Inner
-- what each public function promises
pub mod Promises
