-- what the tests of this crate's functions amount to
pub mod Steps
-- what a good verdict says of a table
pub mod Good
