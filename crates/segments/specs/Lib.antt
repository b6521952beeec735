-- SPECIFICATION 2.5, 8 and 10.7: the script, segments, and Segments from data. `Positions` is for inner functions: nobody has to believe it.
pub mod Script
pub mod Segments
pub mod FromData
pub mod Positions
