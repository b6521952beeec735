-- The files of laws, those that others rest on first.
pub mod Tests
pub mod Digits
pub mod Characters
pub mod Back
pub mod Lengths
pub mod Scripts
pub mod Data
pub mod Theorems
pub mod Runs
pub mod Checks
