-- the loop over the pairs, and the tick that it is a part of
pub mod Passing
