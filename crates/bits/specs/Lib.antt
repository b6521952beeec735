-- Bits of bytes, and words of bits.
pub mod Bits
pub mod Four
pub mod Read
