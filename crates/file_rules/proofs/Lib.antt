-- the files worked by hand, all of them
pub mod FileCase
