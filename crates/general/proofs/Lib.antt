-- Laws that belong to no layer.
pub mod Names
pub mod Finite
pub mod Xor
pub mod Choices
pub mod Lists
pub mod Each
pub mod Lowest
