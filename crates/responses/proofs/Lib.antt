-- the sums of a round
pub mod Rounds
-- the repetition
pub mod Repetition
-- from the verdicts to what the call promises
pub mod Calls
