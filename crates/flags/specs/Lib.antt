-- `Inner` is for inner functions: nobody has to believe it.
pub mod Inner
