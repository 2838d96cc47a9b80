-- the pairs inside the table, and those beyond it
pub mod Parts
-- what a good verdict says of a table and a state
pub mod Good
