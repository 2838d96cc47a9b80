-- a log worked by hand
pub mod ByHand
-- each call makes a history
pub mod Each
-- and so do all of them
pub mod CodeKept
-- a step is a decision and then its tick
pub mod Steps
-- a decision, and then its tick
pub mod Decided
