-- SPECIFICATION 7: the block table and blocks. `Inner` is for inner functions: nobody has to believe it.
pub mod Table
pub mod Blocks
pub mod Inner
