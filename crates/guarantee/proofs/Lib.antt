-- what a history is computed by, under one name
pub mod Worked
-- a history worked by hand
pub mod ByHand
-- where all is empty or just replenished, everybody passes
pub mod CriticalInstant
-- the pick's tick, and a release
pub mod Spending
-- time that passes
pub mod Passing
-- one event
pub mod Events
-- a history
pub mod Histories
-- the guarantee
pub mod Guaranteed
-- and what would lose a tick
pub mod Losses
