-- what each public function promises
pub mod Promises
-- what a page promises
pub mod Pages
