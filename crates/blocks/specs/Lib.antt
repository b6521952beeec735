-- SPECIFICATION 7.5: blocks corrected and made, one after the other. `Inner` is for inner functions: nobody has to believe it.
pub mod Blockwise
pub mod Inner
