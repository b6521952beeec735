-- The files of laws.
pub mod Fields
pub mod Horner
