mod Bounds
mod Characters
pub mod Numbers
mod Rows
pub mod Sequences
pub mod Single
mod Turns
