-- What inner functions say of each other: nobody has to believe it. What reading means stands in marks/specs.
pub mod Inner
