-- The files of laws, those that others rest on first.
pub mod FirstPlot
pub mod LineRuns
pub mod Coordinates
pub mod Plots
pub mod Places
pub mod Stored
pub mod Fours
pub mod CornerRows
pub mod Lines
pub mod Answer
pub mod KindsLow
pub mod Theorems
pub mod DataModules
