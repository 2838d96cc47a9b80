-- bytes put into a buffer, one text after the other
pub mod Puts
-- the digits of a number
pub mod Decimals
-- a line by its fields
pub mod Parts
-- no line is longer than 64 bytes
pub mod Longest
-- from the fields to what the calls promise
pub mod Calls
