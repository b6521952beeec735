-- Why the remainder tells of the block.
pub mod Digits
pub mod Alpha
pub mod Places
pub mod Steps
pub mod Fill
pub mod Generators
pub mod Lowered
