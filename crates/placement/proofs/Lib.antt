-- The files of laws, those that others rest on first.
pub mod Eights
pub mod Walk
pub mod Rows
pub mod Runs
