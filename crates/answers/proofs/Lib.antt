-- no two results are read as the same
pub mod Injective
-- any two results that a promise allows are equal
pub mod OneAnswer
-- and so are any two of those in numbers, for C
pub mod OneInNumbers
