mod Ends
pub mod Single
mod Tables
mod Turns
pub mod Untouched
mod WalkSteps
mod Whole
