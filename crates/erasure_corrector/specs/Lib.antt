-- SPECIFICATION 3.10: Correct a block with erased places. `Inner` is for inner functions: nobody has to believe it.
pub mod Erased
pub mod Inner
