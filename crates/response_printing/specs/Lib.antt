-- what each function promises
pub mod Promises
