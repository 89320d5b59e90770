mod Exits
mod Fields
mod Inside
mod Lengths
mod Loops
pub mod Outcomes
mod Pens
pub mod Short
pub mod Single
mod Sizing
pub mod Untouched
mod Whole
