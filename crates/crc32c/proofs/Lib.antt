mod Copied
pub mod Division
mod Entries
pub mod Examples
mod Folds
mod Halves
pub mod Injective
pub mod Joined
mod Kept
mod Multiple
pub mod Numbers
pub mod Single
pub mod Xor
