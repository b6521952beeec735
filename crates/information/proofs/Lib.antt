-- The files of laws, those that others rest on first.
pub mod Apart
pub mod Products
pub mod Distinct
pub mod Read
pub mod Kind
pub mod Copies
pub mod Flips
pub mod Theorems
