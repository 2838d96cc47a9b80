-- what each public function promises
pub mod Promises
