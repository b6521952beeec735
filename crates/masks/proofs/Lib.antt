-- The files of laws, those that others rest on first.
pub mod Three
pub mod Rows
pub mod OpenRows
