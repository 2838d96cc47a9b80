-- what a history is, and what is counted in it
pub mod Histories
-- the guarantee, clause by clause: this is the file to read
pub mod Guarantee
-- what it is to lose a tick, and the tempting rules that do
pub mod Losses
