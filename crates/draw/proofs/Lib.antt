-- the weights, one after the other
pub mod Weighing
-- the running sum
pub mod Running
-- from the list and its weights to what the calls say
pub mod Calls
