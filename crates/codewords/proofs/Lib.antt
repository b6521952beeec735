-- The files of laws, those that others rest on first.
pub mod Bits
pub mod Masks
pub mod Interleave
pub mod Apart
pub mod Placement
pub mod Back
pub mod Theorems
pub mod Small
