-- The files of laws, those that others rest on first.
pub mod Words
pub mod Marking
