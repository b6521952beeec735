-- The files of laws, those that others rest on first.
pub mod Splice
pub mod Rule
pub mod Corrects
pub mod Transfers
pub mod RefusedStreams
pub mod Written
pub mod Theorems
pub mod Answers
