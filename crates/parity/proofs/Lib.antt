-- Laws of the parity of data, for any field whose polynomial passes the order test and any first root.
pub mod Remainder
pub mod ParityBytes
pub mod Fit
pub mod Left
pub mod Theorems
