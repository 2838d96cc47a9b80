-- what an error leaves
pub mod Writing
