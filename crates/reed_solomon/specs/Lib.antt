-- SPECIFICATION 3: blocks. `Inner` is for inner functions: nobody has to believe it.
pub mod Block
pub mod Erased
pub mod Inner
pub mod Sum
pub mod Places
pub mod Register
