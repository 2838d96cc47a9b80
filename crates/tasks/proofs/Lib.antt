-- from one task to all of them, and to one that is asked for
pub mod Judged
