-- a line in the buffer of its call, and the line of a refusal
pub mod LineInBuffer
-- a line that a call makes, of either printer
pub mod LineMade
-- a line taken off what is still to be written
pub mod Counting
-- what a judged file says of the file
pub mod JudgedFile
-- the schedule printer
pub mod Schedule
-- the response printer
pub mod Response
