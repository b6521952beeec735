-- The files of laws, those that others rest on first.
pub mod Turns
pub mod Stores
pub mod Regions
pub mod Designators
pub mod Steps
pub mod Sizes
pub mod Theorems
