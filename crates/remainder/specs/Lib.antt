-- The division of a block by its generator. It belongs to the code: nobody has to believe it.
pub mod Words
pub mod Generators
