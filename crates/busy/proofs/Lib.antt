-- one partition's replenishments
pub mod Refill
-- the repetition
pub mod Repetition
-- from a busy length to a pass
pub mod Ends
-- up to where nobody is replenished twice
pub mod Near
-- the nested search
pub mod Nested
-- what the search has put into the lent list
pub mod Listed
