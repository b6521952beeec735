-- SPECIFICATION 2.6 and 10.9 to 10.12: the receipt, Read a square, Read with known version, level, mask, Write a square, and Write the smallest mark.
pub mod Receipt
pub mod Read
pub mod Inner
pub mod Write
pub mod Smallest
pub mod Promise
pub mod Edges
