-- Why the corrector of blocks with erased places is exact.
pub mod Repairs
pub mod One
pub mod Theorems
