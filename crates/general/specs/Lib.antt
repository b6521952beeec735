-- Words of definitions, and what inner functions of several crates say.
pub mod Lists
pub mod Each
