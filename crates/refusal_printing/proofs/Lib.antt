-- the line in its buffer, counted
pub mod Refusals
