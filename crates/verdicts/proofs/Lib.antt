-- from what is found to a verdict, and on from a verdict
pub mod Verdicts
-- from a verdict to what a call says
pub mod Outcomes
