-- Laws of the readings and of writing, and the theorem.
pub mod Refusals
pub mod Modules
pub mod Data
pub mod Marks
pub mod ReadBack
pub mod Smallest
pub mod Starts
pub mod Leftovers
pub mod Flags
pub mod AnySquare
pub mod Theorems
pub mod Instance
pub mod Edges
