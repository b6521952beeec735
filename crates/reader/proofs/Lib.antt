-- Laws of the readings' inner functions.
pub mod Bytes
pub mod FirstRefusals
