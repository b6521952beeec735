-- Why erased places may be taken out of a block, and added to the locator of what is left.
pub mod Rooting
pub mod Reduced
pub mod Locating
