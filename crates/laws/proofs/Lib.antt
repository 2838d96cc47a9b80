-- The laws. First those about the words, a file for each subject.
pub mod Tests
pub mod Ceil
pub mod Totals
pub mod Places
-- what `find` answers over a range
pub mod Found
pub mod Filled
pub mod Padded
pub mod Settle
-- sums as a chain makes them
pub mod Sums
-- Then those about the rules: a file has the name of the rules that its laws are about.
pub mod Numbers
pub mod Arrivals
pub mod BusyLength
pub mod Admission
pub mod StandingTest
pub mod Candidates
pub mod Weights
pub mod Pick
pub mod Tick
pub mod Release
pub mod TaskResponse
pub mod Refusals
-- a fresh start, a tick and a release give states in range
pub mod Keeps
-- a run is the fold of its steps
pub mod Run
-- entries beyond the count are no part of a table
pub mod Beyond
