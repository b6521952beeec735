-- Laws of the answer for a square.
pub mod Readings
