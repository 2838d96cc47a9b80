-- what an error leaves, over several writes
pub mod Parts
