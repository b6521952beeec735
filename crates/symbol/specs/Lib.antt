-- SPECIFICATION 2.1 and 4: version and layout. `Inner` is for inner functions: nobody has to believe it.
pub mod Version
pub mod Layout
pub mod Inner
