-- What inner functions say of each other: nobody has to believe it. What writing means stands in marks/specs.
pub mod Inner
