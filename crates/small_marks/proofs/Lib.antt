-- The files of laws, those that others rest on first.
pub mod Open
pub mod Narrow
pub mod Margins
