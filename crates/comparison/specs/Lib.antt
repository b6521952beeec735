-- What the exports for the comparison answer. No part of the specification.
pub mod Correcting
pub mod Marks
pub mod Places
pub mod Scripts
