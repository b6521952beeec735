-- Laws of writing's inner functions.
pub mod Starts
pub mod DataRoom
pub mod Refusals
pub mod Fronts
pub mod StreamToMark
