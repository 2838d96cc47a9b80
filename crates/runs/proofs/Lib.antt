-- from verdicts, pick and tick to what the calls promise
pub mod Calls
-- the loop of a run
pub mod Looped
