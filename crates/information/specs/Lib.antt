-- SPECIFICATION 5: information. `Inner` is for inner functions: nobody has to believe it.
pub mod Information
pub mod Inner
