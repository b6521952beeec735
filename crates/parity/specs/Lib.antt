-- SPECIFICATION 10.6: the parity of a block. `Inner` is for inner functions: nobody has to believe it.
pub mod Encode
pub mod Inner
