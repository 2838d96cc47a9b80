-- Document 01, rule by rule and in its order. Quotation marks enclose its sentences.
pub mod Numbers
pub mod Admission
pub mod FreshStart
pub mod BusyLength
pub mod StandingTest
pub mod Candidates
pub mod Weights
pub mod Pick
pub mod Tick
pub mod Release
pub mod Run
pub mod TaskResponse
pub mod Refusals
-- the grounds of a refusal over the records that calls take
pub mod Records
-- all of these under one name, to compute with
pub mod Worked
-- and figures that they give
pub mod Sums
pub mod Corners
