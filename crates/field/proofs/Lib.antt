-- Laws of the field, for any polynomial that passes the order test.
pub mod Xor
pub mod Field
pub mod Entries
pub mod Instances
pub mod Theorems
