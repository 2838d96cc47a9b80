-- from a pass to what it decides
pub mod Tests
