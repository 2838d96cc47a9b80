-- the pairs inside the table, and those beyond it
pub mod Parts
-- what each public function promises
pub mod Promises
