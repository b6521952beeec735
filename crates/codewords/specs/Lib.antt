-- SPECIFICATION 6: masks and codewords. `Inner` is for inner functions: nobody has to believe it.
pub mod Codewords
pub mod Inner
