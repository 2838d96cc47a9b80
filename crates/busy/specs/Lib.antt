-- where the repetition ends
pub mod Spans
-- what each public function promises
pub mod Promises
-- what the inner functions give
pub mod Inner
