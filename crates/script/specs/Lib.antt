-- SPECIFICATION 9 and 10.8: a script as bits, and what Write a square asks of script and payload. Lengths, Inner and Characters
-- are for inner functions: nobody has to believe them.
pub mod Writer
pub mod Check
pub mod Lengths
pub mod Inner
pub mod Characters
