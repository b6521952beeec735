-- The files of laws, those that others rest on first.
pub mod Reading
pub mod Writing
pub mod Words
pub mod Bytes
pub mod Window
pub mod Appending
pub mod Inside
