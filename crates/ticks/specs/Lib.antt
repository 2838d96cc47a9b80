-- what is promised of a tick
pub mod Promises
