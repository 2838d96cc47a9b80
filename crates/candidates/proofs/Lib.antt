-- from the search to what the calls say
pub mod Calls
