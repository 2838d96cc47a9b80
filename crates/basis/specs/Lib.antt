-- The words that every rule is written in.
pub mod Words
-- what a function gives that reckons in a fixed width
pub mod Reckoned
-- tables of sums worked by hand
pub mod Rows
-- an Option of the code
pub mod Options
-- the words at work
pub mod Shown
