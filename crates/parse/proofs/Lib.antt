-- Laws of Segments from data.
pub mod Copies
pub mod Outcomes
