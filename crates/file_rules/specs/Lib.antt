-- Document 01's "Meter file and printers", in its order. Quotation marks enclose its sentences.
pub mod MeterFile
pub mod Events
pub mod Printers
-- all of these under one name, to compute with
pub mod Worked
-- and outputs that they give
pub mod FileCase
