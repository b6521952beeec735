-- The files of laws, those that others rest on first.
pub mod WordsLeft
pub mod Runs
pub mod Zeros
pub mod Segments
