-- What inner functions say of each other: nobody has to believe it.
pub mod Inner
