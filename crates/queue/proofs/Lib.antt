-- The files of laws, those that others rest on first.
pub mod Queues
pub mod States
pub mod Loops
pub mod Events
pub mod Theorems
