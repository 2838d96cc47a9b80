-- a fresh start, partition by partition
pub mod Fresh
-- from verdicts and tick to what the calls promise
pub mod Calls
