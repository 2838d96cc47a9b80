-- the rows of the response times, byte for byte
pub mod Response
