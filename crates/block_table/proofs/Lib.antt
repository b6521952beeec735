-- The files of laws, those that others rest on first.
pub mod Rows
pub mod Cuts
pub mod Theorems
