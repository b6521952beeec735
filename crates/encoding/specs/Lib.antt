-- The encoding of a script: what its functions leave in the data.
pub mod Written
